-- The standing of a member in the last term of a group.
use Rattle.std.specs.Prelude.{◌≡◌, ℕ, true, false, length, Some, slice_get}
use Rattle.ring_roster.specs.Ring.{position_of}
use Rattle.ring_terms.specs.declared.standing.Standing.{Standing}
use Rattle.ring_terms.specs.declared.standing.Standing.TheVariants.{Leader, Undecided}
use Rattle.ring_terms.specs.Object.{GroupView, OfLast, TermView}

-- the member with this number is informed in this term, which has this leader
pub record IsInformedIn (node leader : ℕ) (term : TermView) : Type 0 where
  pub position : ℕ
  pub placed : position_of node term.ring ≡ Some position
  pub informed : slice_get term.informed position ≡ Some true
  pub leads : term.leader ≡ Some leader

-- the member with this number is not informed in this term
pub record IsUninformedIn (node : ℕ) (term : TermView) : Type 0 where
  pub position : ℕ
  pub placed : position_of node term.ring ≡ Some position
  pub uninformed : slice_get term.informed position ≡ Some false

-- the standing in the term with this number: its leader for an informed member, otherwise undecided
abbrev pub TellsIn : ℕ → ℕ → Standing → TermView → Type 0
TellsIn node number (Leader named leader) term = (named ≡ number) × IsInformedIn node leader term
TellsIn node number (Undecided named) term = (named ≡ number) × IsUninformedIn node term

-- the member is informed of this leader in the last term of its group
abbrev pub IsInformed : {E : Type 0} → ℕ → ℕ → GroupView E → Type 0
IsInformed node leader group = OfLast (IsInformedIn node leader) group

-- who: the standing in the last term of a group
abbrev pub Tells : {E : Type 0} → ℕ → Standing → GroupView E → Type 0
Tells node standing group = OfLast (TellsIn node (length group.terms) standing) group
