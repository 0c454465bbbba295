-- Quiet means known, by what the type keeps of the new state.
use Rattle.ring_terms.specs.Object.{names}
use Rattle.ring_mux.specs.Views.{placed}
use Rattle.ring_mux.proofs.Keeping.{quiet_is_known}
use Rattle.ring_mux.proofs.mux.Mux.step.Goals as goal

pub returns-clause-quiet : goal.returns-clause-quiet
returns-clause-quiet g c =
    rw (← c.self-2.view_is)
    (quiet_is_known g.E.RingElection.table g.E.RingElection.fits g.E.RingElection.winner g.met.E.RingElection.deciding (λ a. (g.met.E.RingElection.lawful a).start_undecided) c.self-2.inside.book
    (placed (names c.self-2.inside.book) c.self-2.inside.worlds.items) c.self-2.invariant.held)

pub returns-clause-informed : goal.returns-clause-informed
returns-clause-informed g c = rw (← c.self-2.view_is) c.self-2.invariant.held.held
