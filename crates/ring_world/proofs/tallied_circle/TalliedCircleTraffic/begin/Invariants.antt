use Rattle.std.proofs.Common.{◌≡◌, ◌≤◌, ◌<◌, ◌*◌, ℕ}
use Rattle.ring_id.specs.declared.side.Side.{Side}
use Rattle.ring_world.specs.private.LinkSets.{bit_of}
use Rattle.ring_world.specs.private.Tallies.{IsMarked}
use Rattle.ring_world.specs.Worlds.{pending_below, size_of}
use Rattle.ring_world.proofs.tallied_circle.TalliedCircleTraffic.begin.Given as goal

-- the links into the positions that were passed are marked, and what is in flight there is counted;
-- each link adds less than 2 ^ 64
abbrev pub invariant-loop-position : goal.invariant-loop-position
invariant-loop-position g l = record {
  marked : (i : ℕ) (side : Side) → i < l.position → IsMarked g.E.RingElection.table l.circle l.ready.words i side;
  beyond : (place : ℕ) → 2 * size_of l.circle ≤ place → bit_of l.ready.words place ≡ 0;
  counted : l.pending ≡ pending_below g.E.RingElection.table l.circle l.position;
  few : l.pending ≤ 36893488147419103232 * l.position;
}
