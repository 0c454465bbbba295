-- Where no packet is pending nothing stands on a link, and so every node knows.
use Rattle.std.proofs.Common.{sym, ◌∙◌}
use Rattle.ring_world.proofs.Quiet.{emptied_knows, emptied_none_pending, none_pending_emptied}
use Rattle.ring_world.proofs.world.World.pending.Goals as goal

pub returns-clause-emptied : goal.returns-clause-emptied
returns-clause-emptied g c =
    let kept = rw c.self.view_is at c.self.invariant in
    let world = c.args.self.now in
    let counted = rw c.self.view_is at c.pending.ensures in
    (λ none. none_pending_emptied g.E.RingElection.table world (sym counted ∙ none), λ emptied. counted ∙ emptied_none_pending g.E.RingElection.table world emptied)

pub returns-clause-quiet : goal.returns-clause-quiet
returns-clause-quiet g c = λ none.
    let kept = rw c.self.view_is at c.self.invariant in
    let world = c.args.self.now in
    emptied_knows g.E.RingElection.table g.E.RingElection.fits g.E.RingElection.winner world
    (g.met.E.RingElection.deciding world.charter.algorithm)
    (g.met.E.RingElection.lawful world.charter.algorithm).start_undecided
    kept.sound
    ((returns-clause-emptied g c).0 none)
