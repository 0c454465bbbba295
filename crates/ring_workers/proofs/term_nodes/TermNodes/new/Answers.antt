-- All places are empty.
use Rattle.std.proofs.Common.{◌≡◌, ◌+◌, ◌≤◌, [], ◌∷◌, ◌++◌, length, None, sym, ap, ◌∙◌, subst, arith}
use Rattle.std.proofs.lemmas.List.{replicate_more}
use Rattle.ring_node.specs.Nodes.{Seated}
use Rattle.ring_workers.proofs.Seatings.{empties, seating_empty}
use Rattle.ring_workers.proofs.term_nodes.TermNodes.new.Goals as goal

pub returns-clause-empty : goal.returns-clause-empty
returns-clause-empty g c =
    let ring = c.len-ring.ensures.value ∙ ap length (c.roster.ensures ∙ ap (λ ch. ch.roster) c.deref.ensures) in
    let many : c.loop.counter ≡ length c.args.charter.now.value.roster = omega arith in
    let places = c.loop.invariant.0 ∙ ap (empties (Seated g.row.E.Denot g.row.E-Msg.Denot)) many in
    λ i. record { number = c.args.owner.number; workers = c.args.owner.workers; charter = c.in_ok-try_clone.ensures i; places = places i }

pub invariant_of-result : goal.invariant_of-result
invariant_of-result g c =
    let ring = c.len-ring.ensures.value ∙ ap length (c.roster.ensures ∙ ap (λ ch. ch.roster) c.deref.ensures) in
    let many : c.loop.counter ≡ length c.args.charter.now.value.roster = omega arith in
    let charter = c.in_ok-try_clone.ensures in
    let places = c.loop.invariant.0 ∙ ap (empties (Seated g.row.E.Denot g.row.E-Msg.Denot)) (many ∙ ap (λ ch. length ch.roster) (sym charter)) in
    (rw places (seating_empty c.args.owner.number c.args.owner.workers c.in_ok-try_clone.field-0.value), λ k d h. absurd (omega (arith, h, ap length c.new.ensures.items)))

pub returns-clause-kept : goal.returns-clause-kept
returns-clause-kept g c = (invariant_of-result g c).0

pub loop-init : goal.loop-init
loop-init g c = (c.in_ok-places.ensures.items, c.in_ok-places.ensures.len, c.in_ok-places.ensures.capacity)

pub push_reserved-requires : goal.push_reserved-requires
push_reserved-requires g c = omega (arith, c.loop.invariant.1, c.loop.invariant.2, c.loop-test.true)

pub loop-preserved : goal.loop-preserved
loop-preserved g c = (
  c.push_reserved.ensures.items ∙ ap (λ places. places ++ None ∷ []) c.loop.invariant.0 ∙ replicate_more c.loop.counter None,
  c.push_reserved.ensures.len ∙ ap (λ n. n + 1) c.loop.invariant.1,
  subst (λ n. c.len-ring.result ≤ n) (sym c.push_reserved.ensures.capacity) c.loop.invariant.2,
)
