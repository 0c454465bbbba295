-- The number of messages that an election takes, as a law that a function's contract names.
use Rattle.std.specs.Prelude.{◌≡◌, ◌*◌, ℕ, List, length}
use Rattle.ring_id.specs.declared.side.Side.{Side}
use Rattle.ring_roster.specs.Ring.{IsRing}
use Rattle.ring_election.specs.Families.{FamilyFits, IsComplete, taken_in_all}
use Rattle.ring_lelann.specs.LeLann.{lelann_fits, lelann_table}

-- In a complete family that fits, the positions of a ring of n took exactly n² messages in all.
abbrev pub WorkIsSquare : Type 0
WorkIsSquare =
    (ring : List ℕ) (family : ℕ → List (Side × ℕ)) → IsRing ring
    → FamilyFits lelann_fits ring family → IsComplete lelann_table ring family
    → taken_in_all (length ring) family ≡ length ring * length ring
