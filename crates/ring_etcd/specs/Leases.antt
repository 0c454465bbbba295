-- What a standby process saw of a lease, and what it heard.
use Rattle.std.specs.Prelude.{◌≡◌, ◌==◌, ◌+◌, ◌⊎◌, ℕ, List, min, if◌then◌else◌}
use Rattle.ring_etcd.specs.declared.lease.TheConstants.{LOOKS}

-- The revision that the last look found, and how many looks in a row found it, `LOOKS` at most.
-- The revision is 0 if nothing was there. Then the number of replies that were heard, and the text
-- of the last one.
pub record Watched : Type 0 where
  pub revision : ℕ
  pub looks : ℕ
  pub heard : ℕ
  pub last : List ℕ

-- The revision and the looks are as before, whatever was heard.
abbrev pub SameLooks : Watched → Watched → Type 0
SameLooks old new = (new.revision ≡ old.revision) × (new.looks ≡ old.looks)

-- One more look found this revision.
abbrev pub HasLooked : Watched → Watched → ℕ → Type 0
HasLooked old new revision =
    (new.revision ≡ revision)
    × (new.looks ≡ (if revision == old.revision then min LOOKS (old.looks + 1) else 1))

-- Nothing was there, or `LOOKS` looks in a row found the same revision.
abbrev pub MayClaim : Watched → Type 0
MayClaim watched = (watched.revision ≡ 0) ⊎ (watched.looks ≡ LOOKS)
