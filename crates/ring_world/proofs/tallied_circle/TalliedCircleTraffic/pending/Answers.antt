-- The number is kept beside the circle.
use Rattle.ring_world.proofs.tallied_circle.TalliedCircleTraffic.pending.Goals as goal

pub returns : goal.returns
returns g c = let kept = rw c.self.view_is at c.self.invariant in kept.counted
