-- Deliveries in a world one after another, each on the link that is ready then.
use Rattle.std.specs.Prelude.{◌≡◌, ℕ, zero, suc, Option}
use Rattle.ring_id.specs.declared.side.Side.{Side}
use Rattle.ring_election.specs.Tables.{Table}
use Rattle.ring_node.specs.Reports.{Told}
use Rattle.ring_world.specs.Worlds.{HasMoved, IsFirstLink, Running}

-- one delivery, on the first link with something in flight
pub record DeliversFirst {E S M : Type 0} (t : E → Table S M) (old new : Running E M) : Type 0 where
  pub position : ℕ
  pub side : Side
  pub report : Option (Told E)
  pub ready : IsFirstLink t old position side
  pub moved : HasMoved t old position side report new

-- so many of them, one after another
abbrev pub DeliversTimes : {E S M : Type 0} → (E → Table S M) → ℕ → Running E M → Running E M → Type 0
DeliversTimes t zero old new = new ≡ old
DeliversTimes {E} {S} {M} t (suc n) old new = (mid : Running E M) × DeliversTimes t n old mid × DeliversFirst t mid new
