-- The first bit is the first link's; where there is none nothing is in flight.
use Rattle.std.proofs.Common.{ℕ, Some, sym, subst}
use Rattle.ring_world.specs.private.LinkSets.{IsFirst}
use Rattle.ring_world.proofs.Marks.{first_link, no_link}
use Rattle.ring_world.proofs.tallied_circle.TalliedCircleTraffic.ready.Goals as goal

pub returns : goal.returns
returns g c =
    let kept = rw c.self.view_is at c.self.invariant in
    let words = c.self.inside.ready.words in
    let first = subst (λ (place : ℕ). IsFirst words (Some place)) (sym c.link_at.ensures) c.in-Some.ensures in
    first_link g.E.RingElection.table c.args.self.now words kept.marked c.link_at.result.0 c.link_at.result.1 first

pub returns-in_default : goal.returns-in_default
returns-in_default g c =
    let kept = rw c.self.view_is at c.self.invariant in
    no_link g.E.RingElection.table c.args.self.now c.self.inside.ready.words kept.marked c.in_default.ensures
