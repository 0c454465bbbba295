-- A run over one event more, and over all.
use Rattle.std.proofs.Common.{refl, arith}
use Rattle.std.proofs.lemmas.List.{take_all, take_more}
use Rattle.ring_terms.proofs.Steps.{Run-push}
use Rattle.ring_mux.proofs.HoldingSteps.{RunOfWorlds-push}
use Rattle.ring_terms.specs.Object.{names}
use Rattle.ring_mux.specs.Views.{placed}
use Rattle.ring_mux.proofs.Keeping.{quiet_is_known}
use Rattle.ring_mux.proofs.mux.Mux.run.Goals as goal

pub returns-in_default-clause-quiet : goal.returns-in_default-clause-quiet
returns-in_default-clause-quiet g c =
    rw (← c.self.view_is)
    (quiet_is_known g.E.RingElection.table g.E.RingElection.fits g.E.RingElection.winner g.met.E.RingElection.deciding (λ a. (g.met.E.RingElection.lawful a).start_undecided) c.self.inside.book
    (placed (names c.self.inside.book) c.self.inside.worlds.items) c.self.invariant.held)

pub returns-in_default-clause-informed : goal.returns-in_default-clause-informed
returns-in_default-clause-informed g c = rw (← c.self.view_is) c.self.invariant.held.held

pub loop-event-init : goal.loop-event-init
loop-event-init g c = record {
  run = rw c.in-Ok.ensures.items refl;
  worlds = rw c.in-Ok.ensures.items refl;
  informed = rw (← c.self.view_is) c.self.invariant.held.held;
  quiet =
      rw (← c.self.view_is)
      (quiet_is_known g.E.RingElection.table g.E.RingElection.fits g.E.RingElection.winner g.met.E.RingElection.deciding (λ a. (g.met.E.RingElection.lawful a).start_undecided) c.self.inside.book
      (placed (names c.self.inside.book) c.self.inside.worlds.items) c.self.invariant.held);
  count = c.in-Ok.ensures.len;
  room = omega (arith, c.in-Ok.ensures.exact);
}

pub loop-event-preserved : goal.loop-event-preserved
loop-event-preserved g c = record {
  run =
      rw (take_more c.args.events.now c.loop-event.event-index c.event-item.result c.loop-event-test.true, ← c.event-item.is, c.push_reserved.ensures.items)
      (Run-push g.E.RingElection.is_two_way g.E.RingElection.is_greatest _ _ _ _ _ _ _ c.loop-event.invariant.run c.step-reply.ensures.object);
  worlds =
      rw (take_more c.args.events.now c.loop-event.event-index c.event-item.result c.loop-event-test.true, ← c.event-item.is, c.push_reserved.ensures.items)
      (RunOfWorlds-push g.E.RingElection.table g.E.RingElection.is_two_way g.E.RingElection.is_greatest _ _ _ _ _ _ _ c.loop-event.invariant.worlds
      (record { object = c.step-reply.ensures.object; worlds = c.step-reply.ensures.worlds; informed = c.step-reply.ensures.informed; quiet = c.step-reply.ensures.quiet }));
  informed = c.step-reply.ensures.informed;
  quiet = c.step-reply.ensures.quiet;
  count = omega (arith, c.push_reserved.ensures.len, c.loop-event.invariant.count);
  room = omega (arith, c.push_reserved.ensures.capacity, c.loop-event.invariant.room);
}

pub returns-clause-run : goal.returns-clause-run
returns-clause-run g c = rw (take_all c.loop-event.event-index c.args.events.now c.loop-event-test.false) at c.loop-event.invariant.run

pub returns-clause-worlds : goal.returns-clause-worlds
returns-clause-worlds g c = rw (take_all c.loop-event.event-index c.args.events.now c.loop-event-test.false) at c.loop-event.invariant.worlds

pub returns-clause-informed : goal.returns-clause-informed
returns-clause-informed g c = c.loop-event.invariant.informed

pub returns-clause-quiet : goal.returns-clause-quiet
returns-clause-quiet g c = c.loop-event.invariant.quiet
