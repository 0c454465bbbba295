-- At most one leader (Lynch, Distributed Algorithms, 3.1: exactly one process outputs that it is
-- the leader).
use Rattle.std.specs.Prelude.{◌≡◌, ℕ, List}
use Rattle.ring_id.specs.declared.side.Side.{Side}
use Rattle.ring_roster.specs.Ring.{IsRing}
use Rattle.ring_election.specs.Tables.{Table}
use Rattle.ring_election.specs.Families.{FamilyFits, Fitting, HasDecided}

-- no two positions of a family that fits have decided different identities
abbrev pub HasOneLeader : {S M : Type 0} → Table S M → Fitting M → Type 0
HasOneLeader {S} {M} t fits =
    (ring : List ℕ) (family : ℕ → List (Side × M)) → IsRing ring → FamilyFits fits ring family
    → (one another : HasDecided t ring family) → one.leader ≡ another.leader
