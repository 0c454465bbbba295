-- How far phases get, as laws that a function's contract names.
use Rattle.std.specs.Prelude.{◌≡◌, ◌^◌, ◌≤◌, ℕ, List, length, Some, slice_get}
use Rattle.ring_id.specs.declared.side.Side.{Side}
use Rattle.ring_roster.specs.Ring.{IsRing}
use Rattle.ring_election.specs.Families.{IsSound}
use Rattle.ring_election.specs.Traces.{state_after}
use Rattle.ring_hirschberg.specs.declared.hirschberg.HirschbergMsg.{HirschbergMsg}
use Rattle.ring_hirschberg.specs.Hirschberg.{ceil_log2, hirschberg_table, phase}

-- In a sound family, fitting or not, the phase of no member exceeds the logarithm of the number of
-- members, rounded up.
abbrev pub PhasesAreFew : Type 0
PhasesAreFew =
    (ring : List ℕ) (family : ℕ → List (Side × HirschbergMsg)) (i me : ℕ) → IsRing ring
    → IsSound hirschberg_table ring family → slice_get ring i ≡ Some me
    → phase (state_after hirschberg_table me (family i)) ≤ ceil_log2 (length ring)

-- The logarithm of n rounded up is the least exponent whose power of two is not below n.
abbrev pub LogarithmIsLeast : Type 0
LogarithmIsLeast = (n : ℕ) → (n ≤ 2 ^ ceil_log2 n) × ((e : ℕ) → n ≤ 2 ^ e → ceil_log2 n ≤ e)
