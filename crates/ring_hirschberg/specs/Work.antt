-- The most messages of an election, and the most members that come to a phase, as laws that a
-- function's contract names.
use Rattle.std.specs.Prelude.{◌≤◌, ◌+◌, ◌*◌, ◌^◌, ℕ, zero, suc, if◌then◌else◌, nat_le, List, length}
use Rattle.std.proofs.Common.{get_or}
use Rattle.ring_id.specs.declared.side.Side.{Side}
use Rattle.ring_roster.specs.Ring.{IsRing}
use Rattle.ring_election.specs.Families.{FamilyFits, IsSound, taken_in_all}
use Rattle.ring_election.specs.Traces.{state_after}
use Rattle.ring_hirschberg.specs.declared.hirschberg.HirschbergMsg.{HirschbergMsg}
use Rattle.ring_hirschberg.specs.Hirschberg.{ceil_log2, hirschberg_fits, hirschberg_table, phase}

-- the phase to which the member at a position has come
abbrev pub phase_at : List ℕ → (ℕ → List (Side × HirschbergMsg)) → ℕ → ℕ
phase_at ring family i = phase (state_after hirschberg_table (get_or ring i 0) (family i))

-- how many members at the positions below n have come to phase l
abbrev pub reaching : List ℕ → (ℕ → List (Side × HirschbergMsg)) → ℕ → ℕ → ℕ
reaching ring family l zero = 0
reaching ring family l (suc n) =
    reaching ring family l n + (if nat_le l (phase_at ring family n) then 1 else 0)

-- In a sound family, fitting or not, at most n / (2^k + 1) of n members come to phase k + 1.
abbrev pub PhasesAreRare : Type 0
PhasesAreRare =
    (ring : List ℕ) (family : ℕ → List (Side × HirschbergMsg)) (k : ℕ) → IsRing ring
    → IsSound hirschberg_table ring family
    → reaching ring family (suc k) (length ring) * (2 ^ k + 1) ≤ length ring

-- In a sound family that fits, the positions of a ring of n took at most 4n + 8n ceil(log2 n)
-- messages.
abbrev pub MessagesAreFew : Type 0
MessagesAreFew =
    (ring : List ℕ) (family : ℕ → List (Side × HirschbergMsg)) → IsRing ring
    → FamilyFits hirschberg_fits ring family → IsSound hirschberg_table ring family
    → taken_in_all (length ring) family
    ≤ 4 * length ring + 8 * length ring * ceil_log2 (length ring)
