use Rattle.std.proofs.Common.{◌+◌, ◌≤◌, refl, sym, ap, ◌∙◌, inl, inr, arith, vec_len, vec_capacity}
use Rattle.std.proofs.lemmas.Result.{err_from_is_err_and}
use Rattle.ring_workers.specs.Owners.{owner_of}
use Rattle.ring_workers.proofs.Handling.{room_found, steps_none}
use Rattle.ring_workers.proofs.worker_state.WorkerState.deliver.Goals as goal

pub returns-then-of-owner-clause-steps : goal.returns-then-of-owner-clause-steps
returns-then-of-owner-clause-steps g c = steps_none g.E.RingElection.table c.args.envelope.charter c.args.self.now.nodes c.args.self.now.outbox.items

pub returns-then-of-owner-clause-delivered : goal.returns-then-of-owner-clause-delivered
returns-then-of-owner-clause-delivered g c = inr (
  λ own. c.if-of-owner.true (c.of.ensures.value ∙ ap (λ w. owner_of w c.receiver.result) c.owner-owner.ensures.workers ∙ ap (owner_of c.args.self.now.nodes.workers) c.receiver.ensures
      ∙ own ∙ sym c.owner-owner.ensures.number),
  c.saturating_add-self.ensures,
)

pub returns-then-is_err-clause-steps : goal.returns-then-is_err-clause-steps
returns-then-is_err-clause-steps g c = steps_none g.E.RingElection.table c.args.envelope.charter c.args.self.now.nodes c.args.self.now.outbox.items

pub returns-in_err-fate : goal.returns-in_err-fate
returns-in_err-fate g c =
    let p = err_from_is_err_and c.from_residual.result c.from_residual.ensures.1 in
    rw (p.1, p.2) (record { steps = c.hand_over.ensures.steps; grows = omega arith; delivered = tt; uncounted = refl; back = c.in_err-fate.ensures.back; why = tt })

pub file-requires : goal.file-requires
file-requires g c =
    let room = room_found c.reserve.result (vec_len c.reserve.new.self + 1 ≤ vec_capacity c.reserve.new.self) c.reserve.ensures.ok c.if-is_err.ensures.value in
    omega (arith, room)

pub hand_over-requires : goal.hand_over-requires
hand_over-requires g c =
    ap (owner_of c.args.self.now.nodes.workers) (sym c.receiver.ensures) ∙ ap (λ w. owner_of w c.receiver.result) (sym c.owner-owner.ensures.workers)
    ∙ sym c.of.ensures.value ∙ c.if-of-owner.false ∙ c.owner-owner.ensures.number

pub returns-in-Some : goal.returns-in-Some
returns-in-Some g c = record {
  steps = c.hand_over.ensures.steps;
  grows = c.dropped_after-self.ensures.grows;
  delivered = inl (c.in_ok-fate.fate, c.in_ok-fate.ensures.fate, c.dropped_after-self.ensures.counted);
  uncounted = tt;
  back = tt;
  why = c.file.ensures;
}

pub returns-in-None : goal.returns-in-None
returns-in-None g c = record {
  steps = c.hand_over.ensures.steps;
  grows = c.dropped_after-self.ensures.grows;
  delivered = inl (c.in_ok-fate.fate, c.in_ok-fate.ensures.fate, c.dropped_after-self.ensures.counted);
  uncounted = tt;
  back = tt;
  why = tt;
}
