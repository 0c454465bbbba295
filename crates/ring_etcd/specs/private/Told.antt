-- What a reply says of what was to be put.
use Rattle.std.specs.Prelude.{◌≡◌, ◌≢◌, ◌⊎◌, ℕ, List, Some}
use Rattle.serde_json.specs.Data.{Data}
use Rattle.ring_etcd.specs.declared.store.Put.{Put}
use Rattle.ring_etcd.specs.declared.store.Put.TheVariants.{Ours, Other, Gone}
use Rattle.ring_etcd.specs.Done.{IsDone}
use Rattle.ring_etcd.specs.Found.{entry_in}
use Rattle.ring_etcd.specs.private.Replies.{base_in}

-- This process put the entry only if the reply says that it was put, or has its bytes in its place.
-- Another put one there only if the reply has its bytes, and the base of this process.
abbrev pub IsToldPut : Data → List ℕ → List ℕ → Put → Type 0
IsToldPut reply entry base Ours = IsDone reply ⊎ (entry_in reply ≡ Some entry)
IsToldPut reply entry base (Other other) =
    (entry_in reply ≡ Some other.items) × (base_in reply ≡ Some base)
IsToldPut reply entry base Gone = entry_in reply ≢ Some entry

-- The reply says that the base was put, or has it.
abbrev pub IsToldSwitched : Data → List ℕ → Type 0
IsToldSwitched reply base = IsDone reply ⊎ (base_in reply ≡ Some base)
