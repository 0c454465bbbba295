-- The most messages that an election takes, as a law that a function's contract names.
use Rattle.std.specs.Prelude.{◌≤◌, ◌+◌, ◌*◌, ℕ, List, length}
use Rattle.ring_id.specs.declared.side.Side.{Side}
use Rattle.ring_roster.specs.Ring.{IsRing}
use Rattle.ring_election.specs.Families.{FamilyFits, taken_in_all}
use Rattle.ring_chang.specs.Chang.{chang_fits}

-- In a family that fits, sound or not, the positions of a ring of n took at most n(n + 1)/2
-- messages in all (Chang-Roberts 1979: the worst case).
abbrev pub WorkIsTriangular : Type 0
WorkIsTriangular =
    (ring : List ℕ) (family : ℕ → List (Side × ℕ)) → IsRing ring → FamilyFits chang_fits ring family
    → 2 * taken_in_all (length ring) family ≤ length ring * (length ring + 1)
