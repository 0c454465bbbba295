-- The node to which the link leads is seated, and then handed the envelope.
use Rattle.std.proofs.Common.{refl, sym, ◌∙◌, inl, inr, true≢false}
use Rattle.ring_workers.proofs.Beginning.{keeps_on}
use Rattle.ring_workers.proofs.Goings.{goes_on}
use Rattle.ring_workers.proofs.term_nodes.TermNodes.hand_over.Goals as goal

pub take-requires : goal.take-requires
take-requires g c = record { seated = c.in-Ok-true.ensures.seated c.in-Ok-true.field-0-test; led = c.position-position.ensures.value }

pub returns-in-Ok : goal.returns-in-Ok
returns-in-Ok g c = record {
  term = keeps_on c.args.self.now c.make_seat.new.self c.take.new.self c.make_seat.ensures.term c.take.ensures.term;
  kept = c.take.ensures.kept;
  goes = goes_on g.E.RingElection.table _ _ _ _ _ _ c.make_seat.ensures.goes c.take.ensures.goes;
  received = λ _. c.in-Ok.ensures.received;
  away = λ no. absurd (true≢false no);
  back = tt;
}

pub returns-in-NoMemory-clause-goes : goal.returns-in-NoMemory-clause-goes
returns-in-NoMemory-clause-goes g c = goes_on g.E.RingElection.table _ _ _ _ _ _ c.make_seat.ensures.goes c.take.ensures.goes

pub returns-in_default : goal.returns-in_default
returns-in_default g c = record {
  term = keeps_on c.args.self.now c.make_seat.new.self c.take.new.self c.make_seat.ensures.term c.take.ensures.term;
  kept = c.take.ensures.kept;
  goes = goes_on g.E.RingElection.table _ _ _ _ _ _ c.make_seat.ensures.goes c.take.ensures.goes;
  received = λ took. absurd (true≢false (sym took));
  away = λ _. elim c.in-Err-take.ensures.away [
    | inl memory ↦ absurd (c.in_default.not-NoMemory memory)
    | inr away ↦ away
  ];
  back = tt;
}

pub returns-in-Ok-false : goal.returns-in-Ok-false
returns-in-Ok-false g c = record {
  term = c.make_seat.ensures.term;
  kept = c.make_seat.ensures.kept;
  goes = c.make_seat.ensures.goes;
  received = λ took. absurd (true≢false (sym took));
  away = λ _. inl (λ same. c.in-Ok-false.ensures.strange c.in-Ok-false.field-0-test (same ∙ sym (c.deref.ensures ∙ c.charter.ensures)));
  back = tt;
}

pub returns-in-Err : goal.returns-in-Err
returns-in-Err g c = record {
  term = c.make_seat.ensures.term;
  kept = c.make_seat.ensures.kept;
  goes = c.make_seat.ensures.goes;
  received = tt;
  away = tt;
  back = refl;
}
