-- The node at a position is seated, or was.
use Rattle.std.proofs.Common.{◌≡◌, ◌<◌, length, sym, ap, ◌∙◌, subst, true≢false}
use Rattle.std.specs.Prelude.{slice_index}
use Rattle.ring_workers.specs.Owners.{owner_of}
use Rattle.ring_workers.specs.private.Seatings.{IsSeating}
use Rattle.ring_workers.specs.Seatings.{seated_in}
use Rattle.ring_workers.proofs.Beginning.{keeps_none}
use Rattle.ring_workers.proofs.Goings.{goes_none}
use Rattle.ring_workers.proofs.Seatings.{empty_there}
use Rattle.ring_workers.proofs.term_nodes.TermNodes.make_seat.Goals as goal

pub returns-then-is_seated : goal.returns-then-is_seated
returns-then-is_seated g c = record {
  term = keeps_none c.args.self.now;
  kept = subst (λ s. IsSeating s.number s.workers s.charter s.places) c.self.view_is c.self.invariant.0;
  goes = goes_none g.E.RingElection.table (seated_in c.args.self.now.places) c.args.outbox.now.items;
  seated = λ _. c.if-is_seated.ensures;
  strange = λ no. absurd (true≢false no);
}

pub returns-then-not-same : goal.returns-then-not-same
returns-then-not-same g c = record {
  term = keeps_none c.args.self.now;
  kept = subst (λ s. IsSeating s.number s.workers s.charter s.places) c.self.view_is c.self.invariant.0;
  goes = goes_none g.E.RingElection.table (seated_in c.args.self.now.places) c.args.outbox.now.items;
  seated = λ there. absurd (true≢false (sym there));
  strange = λ _ same. true≢false (sym (c.same.ensures.1 (c.deref.ensures ∙ ap (λ s. s.charter) c.self.view_is ∙ same)) ∙ c.if-not-same.true);
}

pub seat_for_receipt-requires-clause-inside : goal.seat_for_receipt-requires-clause-inside
seat_for_receipt-requires-clause-inside g c =
    let own = ap (λ s. s.charter) (sym c.self.view_is) ∙ sym c.deref.ensures ∙ c.same.ensures.0 c.if-not-same.false in
    subst (λ ch. c.args.position < length ch.roster) (sym own) c.requires.inside

pub seat_for_receipt-requires-clause-empty : goal.seat_for_receipt-requires-clause-empty
seat_for_receipt-requires-clause-empty g c =
    let seats = subst (λ s. IsSeating s.number s.workers s.charter s.places) c.self.view_is c.self.invariant.0 in
    let own = ap (λ s. s.charter) (sym c.self.view_is) ∙ sym c.deref.ensures ∙ c.same.ensures.0 c.if-not-same.false in
    empty_there c.args.self.now.number c.args.self.now.workers c.args.self.now.charter c.args.self.now.places c.args.position seats
    (subst (λ ch. c.args.position < length ch.roster) (sym own) c.requires.inside) c.if-is_seated.ensures

pub seat_for_receipt-requires-clause-owned : goal.seat_for_receipt-requires-clause-owned
seat_for_receipt-requires-clause-owned g c =
    let own = ap (λ s. s.charter) (sym c.self.view_is) ∙ sym c.deref.ensures ∙ c.same.ensures.0 c.if-not-same.false in
    subst (λ ch. owner_of c.args.self.now.workers (slice_index ch.roster c.args.position) ≡ c.args.self.now.number) (sym own) c.requires.owned

pub returns : goal.returns
returns g c = record {
  term = c.seat_for_receipt.ensures.term;
  kept = c.seat_for_receipt.ensures.kept;
  goes = c.seat_for_receipt.ensures.goes;
  seated = λ _. c.in_ok-seat_for_receipt.ensures.seated;
  strange = λ no. absurd (true≢false no);
}
