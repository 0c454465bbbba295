-- What became of what was to be put, by what etcd said.
use Rattle.std.specs.Prelude.{◌≡◌, ◌≢◌, ℕ, List, Option, Some, option_map}
use Rattle.ring_etcd.specs.declared.replies.Said.{Said}
use Rattle.ring_etcd.specs.declared.replies.Said.TheVariants.{Done, Found}
use Rattle.ring_etcd.specs.declared.store.Put.{Put}
use Rattle.ring_etcd.specs.declared.store.Put.TheVariants.{Ours, Other, Gone}

-- What became of an entry in whose place these were found: an entry, and the base that counts.
-- It is this process's if its own bytes are there. It is another's if other bytes are there and the
-- base of this process counts.
abbrev pub IsPutOver : Option (List ℕ) → Option (List ℕ) → List ℕ → List ℕ → Put → Type 0
IsPutOver there counts entry base Ours = there ≡ Some entry
IsPutOver there counts entry base (Other other) =
    (there ≡ Some other.items) × (there ≢ Some entry) × (counts ≡ Some base)
IsPutOver there counts entry base Gone = there ≢ Some entry

-- the entry was put at this request
abbrev pub IsNew : Put → Type 0
IsNew Ours = Unit {0}
IsNew (Other other) = ⊥
IsNew Gone = ⊥

-- what became of an entry
abbrev pub IsPut : Said → List ℕ → List ℕ → Put → Type 0
IsPut Done entry base put = IsNew put
IsPut (Found there counts) entry base put =
    IsPutOver (option_map (λ bytes. bytes.items) there) (option_map (λ bytes. bytes.items) counts)
    entry base put

-- The base of this process counts.
abbrev pub IsSwitched : Said → List ℕ → Type 0
IsSwitched Done base = Unit {0}
IsSwitched (Found there counts) base = option_map (λ bytes. bytes.items) counts ≡ Some base
