-- Where journals are kept.
use Rattle.std.specs.Prelude.{◌≡◌, ◌≤◌, ◌<◌, ◌&&◌, ◌||◌, ◌==◌, ◌∷◌, ◌++◌, ◌⊎◌, ℕ, Bool, Contains, codes, length, nat_le, true}
use Rattle.std.specs.List.{list_all, list_any, slice_split}
use Rattle.clap.specs.Words.{Text}
use Rattle.ring_words.specs.declared.journals.JournalAt.{JournalAt}
use Rattle.ring_words.specs.declared.journals.JournalAt.TheVariants.{Etcd, File}

-- a letter, a digit, `-` or `_`
abbrev pub is_journal_byte : ℕ → Bool
is_journal_byte b =
    (nat_le 97 b && nat_le b 122) || (nat_le 65 b && nat_le b 90) || (nat_le 48 b && nat_le b 57)
    || (b == 45) || (b == 95)

-- The name of a journal in etcd: 1 to 64 such bytes.
pub record IsJournalName (name : Text) : Type 0 where
  pub some : 0 < length name
  pub short : length name ≤ 64
  pub each : list_all is_journal_byte name ≡ true

-- a text with a colon, as HOST:PORT
abbrev pub has_colon : Text → Bool
has_colon = list_any (λ b. b == 58)

-- Members of etcd, separated by commas: each has a colon, and none has a slash.
pub record AreMembers (members : Text) : Type 0 where
  pub plain : Contains members 47 → ⊥
  pub each : list_all has_colon (slice_split (λ b. b == 44) members) ≡ true

-- the text begins with `etcd://`
abbrev pub IsOfEtcd : Text → Type 0
IsOfEtcd text = (rest : Text) × (text ≡ codes "etcd://" ++ rest)

-- The text is `etcd://`, the members of etcd, a slash and the name of a journal.
pub record IsInEtcd (text members name : Text) : Type 0 where
  pub spelled : text ≡ codes "etcd://" ++ (members ++ (47 ∷ name))
  pub asked : AreMembers members
  pub named : IsJournalName name

-- the place that a text names: in etcd if it begins with `etcd://`, otherwise itself as a path
abbrev pub IsAt : Text → JournalAt → Type 0
IsAt text (File path) = (IsOfEtcd text → ⊥) × (path.now ≡ text)
IsAt text (Etcd members name) = IsInEtcd text members.now name.now

-- the text begins with `etcd://`, and members, a slash and a name do not follow
abbrev pub NamesNoJournal : Text → Type 0
NamesNoJournal text = IsOfEtcd text × ((members name : Text) → IsInEtcd text members name → ⊥)

-- the text names a journal
abbrev pub NamesJournal : Text → Type 0
NamesJournal text =
    (IsOfEtcd text → ⊥) ⊎ ((members : Text) × (name : Text) × IsInEtcd text members name)
