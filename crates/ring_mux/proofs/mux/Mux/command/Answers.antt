-- A start is a step of its own; after any other command the worlds are those of the groups' last terms still.
use Rattle.ring_mux.proofs.Performing.{performed, performed_worlds}
use Rattle.ring_mux.proofs.Places.{kept_sees}
use Rattle.ring_mux.proofs.mux.Mux.command.Goals as goal

pub invariant_of-self : goal.invariant_of-self
invariant_of-self g c =
    let stays = performed g.E.RingElection.table g.E.RingElection.is_two_way g.E.RingElection.is_greatest c.self.inside.book c.perform.new.self c.self.inside.worlds.items c.self.invariant.held.held c.self.invariant.few
    _ c.perform.result c.in_default.not-Start c.perform.ensures in
    kept_sees g.E.RingElection.table g.E.RingElection.fits g.E.RingElection.winner c.self.inside.book c.perform.new.self c.self.inside.worlds.items c.self.invariant stays.0 stays.1

pub returns-in_default-clause-worlds : goal.returns-in_default-clause-worlds
returns-in_default-clause-worlds g c =
    let stays = performed g.E.RingElection.table g.E.RingElection.is_two_way g.E.RingElection.is_greatest c.self.inside.book c.perform.new.self c.self.inside.worlds.items c.self.invariant.held.held c.self.invariant.few
    _ c.perform.result c.in_default.not-Start c.perform.ensures in
    rw (← c.self.view_is) (performed_worlds _ _ _ _ c.in_default.not-Start stays.0.seen)
