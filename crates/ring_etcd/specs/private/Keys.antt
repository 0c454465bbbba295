-- More keys of a journal, before they are in base 64.
use Rattle.std.specs.Prelude.{ℕ, List, ◌++◌, codes}
use Rattle.ring_etcd.specs.Keys.{twenty_digits}

-- the key that has this after the name of the journal
abbrev pub journal_key : List ℕ → List ℕ → List ℕ
journal_key name rest = codes "ring/" ++ (name ++ (codes "/" ++ rest))

-- Each put of it has a revision of its own.
abbrev pub ids_key : List ℕ → List ℕ
ids_key name = journal_key name (codes "ids")

-- the key of the lease
abbrev pub lease_key : List ℕ → List ℕ
lease_key name = journal_key name (codes "lease")

-- the key of the base
abbrev pub base_key : List ℕ → List ℕ
base_key name = journal_key name (codes "base")

-- It is before those of all texts.
abbrev pub before_texts_key : List ℕ → List ℕ
before_texts_key name = journal_key name (codes "t/")

-- It is after those of all texts.
abbrev pub after_texts_key : List ℕ → List ℕ
after_texts_key name = journal_key name (codes "t0")

-- A piece of a text, or an entry after it, by its number. That of an entry is `entry_key` if the
-- part is `e`, and that of a piece is `piece_key` if it is `p`.
abbrev pub part_key : List ℕ → List ℕ → ℕ → ℕ → List ℕ
part_key part name text number =
    codes "ring/" ++ (name ++ (codes "/t/" ++ (twenty_digits text
    ++ (codes "/" ++ (part ++ (codes "/" ++ twenty_digits number))))))

-- It is after those of all pieces of a text, or of all entries after it.
abbrev pub after_parts_key : List ℕ → List ℕ → ℕ → List ℕ
after_parts_key part name text =
    codes "ring/" ++ (name ++ (codes "/t/" ++ (twenty_digits text
    ++ (codes "/" ++ (part ++ codes "0")))))

-- It is before those of this text, and after those of all earlier ones.
abbrev pub before_text_key : List ℕ → ℕ → List ℕ
before_text_key name text =
    codes "ring/" ++ (name ++ (codes "/t/" ++ (twenty_digits text ++ codes "/")))
