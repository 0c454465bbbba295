use Rattle.std.proofs.Common.{◌≡◌, ◌≤◌, length, take, vec_len, vec_capacity}
use Rattle.ring_mux.specs.Quiet.{QuietIsKnown}
use Rattle.ring_terms.specs.Steps.{Run}
use Rattle.ring_mux.specs.Views.{IsHeld}
use Rattle.ring_mux.specs.WorldSteps.{RunOfWorlds}
use Rattle.ring_mux.proofs.mux.Mux.run.Given as goal

-- the replies so far are a run over the events so far, and there is room for the others
abbrev pub invariant-loop-event : goal.invariant-loop-event
invariant-loop-event g l = record {
  run : Run g.E.RingElection.is_two_way g.E.RingElection.is_greatest l.fn.self.object (take l.event-index l.events) l.replies.items l.self.object;
  worlds : RunOfWorlds g.E.RingElection.table g.E.RingElection.is_two_way g.E.RingElection.is_greatest l.fn.self (take l.event-index l.events) l.replies.items l.self;
  informed : IsHeld g.E.RingElection.table l.self.object l.self.worlds;
  quiet : QuietIsKnown g.E.RingElection.table l.self;
  count : vec_len l.replies ≡ l.event-index;
  room : length l.events ≤ vec_capacity l.replies;
}
