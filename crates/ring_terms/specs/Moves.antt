-- The possible effect of a delivery on a group: one member of its last term becomes informed.
use Rattle.std.specs.Prelude.{◌≡◌, ◌≤◌, ◌⊎◌, ℕ, Bool, true, false, List, Option, None, Some, slice_get, slice_set}
use Rattle.ring_roster.specs.Ring.{position_of}
use Rattle.ring_terms.specs.Object.{GroupView, InLast, TermView}

-- a leader that may be named: a member of the ring, and the greatest if that is promised
pub record IsNamed (greatest : Bool) (ring : List ℕ) (leader : ℕ) : Type 0 where
  pub inside : (i : ℕ) × (slice_get ring i ≡ Some leader)
  pub tops : greatest ≡ true → (i v : ℕ) → slice_get ring i ≡ Some v → v ≤ leader

-- a leader that is there stays; if there is none, one is named
abbrev pub LeadsAfter : Bool → List ℕ → Option ℕ → ℕ → Type 0
LeadsAfter greatest ring (Some was) leader = leader ≡ was
LeadsAfter greatest ring None leader = IsNamed greatest ring leader

-- a term with this leader, and with the member at this position informed
abbrev pub inform : ℕ → ℕ → TermView → TermView
inform position leader term =
    record term { leader = Some leader; informed = slice_set term.informed position true }

-- a member that was not informed becomes informed of this leader
pub record InformsIn (greatest : Bool) (node leader : ℕ) (old new : TermView) : Type 0 where
  pub position : ℕ
  pub placed : position_of node old.ring ≡ Some position
  pub uninformed : slice_get old.informed position ≡ Some false
  pub leads : LeadsAfter greatest old.ring old.leader leader
  pub changed : new ≡ inform position leader old

-- in the last term of a group, a member that was not informed becomes informed of this leader
abbrev pub Informs : {E : Type 0} → Bool → ℕ → ℕ → GroupView E → GroupView E → Type 0
Informs greatest node leader old new = InLast (InformsIn greatest node leader) old new

-- a delivery at a member changes nothing, or that member becomes informed
abbrev pub Moves : {E : Type 0} → Bool → ℕ → GroupView E → GroupView E → Type 0
Moves greatest node old new = (new ≡ old) ⊎ ((leader : ℕ) × Informs greatest node leader old new)
