-- Position after position, the nodes that the owner owns are seated.
use Rattle.std.proofs.Common.{◌≤◌, length, sym, ap, ◌∙◌, arith, subst, true≢false}
use Rattle.std.proofs.lemmas.Result.{err_from_is_err_and}
use Rattle.ring_workers.specs.private.Seatings.{IsSeating}
use Rattle.ring_workers.specs.Seatings.{seated_in}
use Rattle.ring_workers.proofs.Beginning.{keeps_none, keeps_on, so_far_all, so_far_first, so_far_seated, so_far_skipped}
use Rattle.ring_workers.proofs.Goings.{goes_none, goes_on}
use Rattle.ring_workers.proofs.Taking.{goes_still}
use Rattle.ring_workers.proofs.term_nodes.TermNodes.begin.Goals.{then-is_free+in_ok-seat, else-is_free}
use Rattle.ring_workers.proofs.term_nodes.TermNodes.begin.Goals as goal

pub returns-then-not-same : goal.returns-then-not-same
returns-then-not-same g c = record {
  term = keeps_none c.args.self.now;
  kept = subst (λ s. IsSeating s.number s.workers s.charter s.places) c.self.view_is c.self.invariant.0;
  goes = goes_none g.E.RingElection.table (seated_in c.args.self.now.places) c.args.outbox.now.items;
  seated = λ own. absurd (true≢false (sym own));
  strange = λ _ same. true≢false (sym (c.same.ensures.1 (c.deref.ensures ∙ ap (λ s. s.charter) c.self.view_is ∙ same)) ∙ c.if-not-same.true);
}

pub find_room-requires : goal.find_room-requires
find_room-requires g c = c.self.invariant.1

pub loop-position-init : goal.loop-position-init
loop-position-init g c = so_far_first g.E.RingElection.table c.args.self.now _ _ _ c.self.view_is c.find_room.ensures.outbox c.self.invariant.0

pub loop-position-preserved : goal.loop-position-preserved
loop-position-preserved g c =
    elim c.if-is_free.branch [
      | then-is_free+in_ok-seat w ↦
          rw (w.self-is, w.outbox-is)
          (so_far_seated g.E.RingElection.table c.args.self.now c.loop-position.self w.seat.new.self c.args.outbox.now.items c.loop-position.outbox.items w.seat.new.outbox.items c.loop-position.position
          c.loop-position.invariant w.seat.ensures.term w.seat.ensures.kept w.seat.ensures.goes w.in_ok-seat.ensures.seated)
      | else-is_free w ↦
          rw (w.self-is, w.outbox-is)
          (so_far_skipped g.E.RingElection.table c.args.self.now c.loop-position.self c.args.outbox.now.items c.loop-position.outbox.items c.loop-position.position c.loop-position.invariant w.if-is_free.ensures)
    ]

pub returns-clause-seated : goal.returns-clause-seated
returns-clause-seated g c =
    let own = ap (λ s. s.charter) (sym c.self.view_is) ∙ sym c.deref.ensures ∙ c.same.ensures.0 c.if-not-same.false in
    let inside = ap (λ s. length s.charter.roster) c.self.view_is in
    let later = ap (λ ch. length ch.roster) c.loop-position.invariant.term.charter_is in
    let end : length c.loop-position.self.charter.roster ≤ c.loop-position.position = omega (arith, c.self.invariant.0.size, inside, later, c.loop-position-test.false, c.len-position-end.ensures, c.self.inside.places.ok) in
    λ _. so_far_all g.E.RingElection.table c.args.self.now c.loop-position.self c.args.outbox.now.items c.loop-position.outbox.items c.loop-position.position c.args.charter.now c.loop-position.invariant end
    (c.loop-position.invariant.term.charter_is ∙ own)

pub seat-requires : goal.seat-requires
seat-requires g c = record { inside = c.if-is_free.ensures.inside; empty = c.if-is_free.ensures.empty; owned = c.if-is_free.ensures.owned }

pub returns-clause-term : goal.returns-clause-term
returns-clause-term g c = c.loop-position.invariant.term

pub returns-clause-kept : goal.returns-clause-kept
returns-clause-kept g c = c.loop-position.invariant.kept

pub returns-clause-goes : goal.returns-clause-goes
returns-clause-goes g c = c.loop-position.invariant.goes

pub returns-in_err-find_room : goal.returns-in_err-find_room
returns-in_err-find_room g c =
    let p = err_from_is_err_and c.from_residual.result c.from_residual.ensures.1 in
    rw p.1
    (record {
      term = record { number_is = ap (λ s. s.number) c.self.view_is; workers_is = ap (λ s. s.workers) c.self.view_is; charter_is = ap (λ s. s.charter) c.self.view_is };
      kept = c.self.invariant.0;
      goes = goes_still g.E.RingElection.table _ _ _ _ (ap (λ s. seated_in s.places) c.self.view_is) c.find_room.ensures.outbox;
      seated = tt;
      strange = tt;
    })

pub returns-in_err-seat : goal.returns-in_err-seat
returns-in_err-seat g c =
    let p = err_from_is_err_and c.from_residual-in_err-seat.result c.from_residual-in_err-seat.ensures.1 in
    rw p.1
    (record {
      term = keeps_on c.args.self.now c.loop-position.self c.seat.new.self c.loop-position.invariant.term c.seat.ensures.term;
      kept = c.seat.ensures.kept;
      goes = goes_on g.E.RingElection.table _ _ _ _ _ _ c.loop-position.invariant.goes c.seat.ensures.goes;
      seated = tt;
      strange = tt;
    })
