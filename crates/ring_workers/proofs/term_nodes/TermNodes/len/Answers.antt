use Rattle.std.proofs.Common.{◌∙◌, ap, ◌+◌, length, sym, arith}
use Rattle.ring_workers.specs.Seatings.{seated_in}
use Rattle.ring_workers.proofs.Moving.{counted_none, counted_some, taken_whole}
use Rattle.ring_workers.proofs.term_nodes.TermNodes.len.Goals as goal
use Rattle.ring_workers.proofs.term_nodes.TermNodes.len.Goals.{in-None, in-Some}

pub loop-place-preserved : goal.loop-place-preserved
loop-place-preserved g c =
    elim c.match-place.branch [
      | in-Some w ↦
          let counted = counted_some c.deref-place-items.result.now c.loop-place.place-index c.place-item.result _ c.loop-place-test.true c.place-item.is w.in-Some.is in
          record { counted = w.count-is ∙ ap (λ n. n + 1) c.loop-place.invariant.counted ∙ sym counted; below = omega arith }
      | in-None w ↦
          let counted = counted_none c.deref-place-items.result.now c.loop-place.place-index c.place-item.result c.loop-place-test.true c.place-item.is w.in-None.is in
          record { counted = w.count-is ∙ c.loop-place.invariant.counted ∙ sym counted; below = omega arith }
    ]

pub returns : goal.returns
returns g c =
    c.loop-place.invariant.counted
    ∙ ap (λ ps. length (seated_in ps)) (taken_whole c.deref-place-items.result.now c.loop-place.place-index c.loop-place-test.false ∙ c.deref-place-items.ensures.value ∙ ap (λ s. s.places) c.self.view_is)
