-- Facts about every book, after any calls.
use Rattle.std.specs.Prelude.{◌≡◌, ◌≤◌, ℕ, true, false, List, length, Some, IsSome, slice_get}
use Rattle.ring_roster.specs.Ring.{IsRing, has_repeat}
use Rattle.ring_terms.specs.Object.{GroupView, Object, TermView, find, place_of}

-- facts about a term, on a ring with this winner
pub record IsTermKept (winner : List ℕ → ℕ) (term : TermView) : Type 0 where
  -- its list is a ring
  pub is_ring : IsRing term.ring
  -- each position has a mark
  pub marked : length term.informed ≡ length term.ring
  -- its leader is the winner of the ring
  pub wins : (leader : ℕ) → term.leader ≡ Some leader → leader ≡ winner term.ring
  -- if a member is informed, there is a leader
  pub led : (position : ℕ) → slice_get term.informed position ≡ Some true → IsSome term.leader
  -- if there is a leader, a member is informed
  pub heard : IsSome term.leader → (position : ℕ) × (slice_get term.informed position ≡ Some true)

-- facts about a group
pub record IsGroupKept {E : Type 0} (winner : E → List ℕ → ℕ) (group : GroupView E) : Type 0 where
  pub few : length group.members ≤ 256
  -- its members differ in their numbers
  pub distinct : has_repeat group.members ≡ false
  pub short : length group.terms ≤ 1000
  pub each : (n : ℕ) (term : TermView) → slice_get group.terms n ≡ Some term
      → IsTermKept (winner group.algorithm) term

-- facts about a book
pub record IsKept {E : Type 0} (winner : E → List ℕ → ℕ) (object : Object E) : Type 0 where
  pub few : length object ≤ 256
  pub each : (name : List ℕ) (group : GroupView E) → find name object ≡ Some group
      → IsGroupKept winner group
  -- each name is there once
  pub apart : (place : ℕ) (name : List ℕ) (group : GroupView E)
      → slice_get object place ≡ Some (name, group) → place_of name object ≡ Some place
