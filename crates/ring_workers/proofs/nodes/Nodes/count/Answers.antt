-- Group by group the nodes are counted, up to the greatest number.
use Rattle.std.proofs.Common.{◌≡◌, ◌-◌, ◌^◌, length, min, ap, ◌∙◌, zero-add, length-append, arith}
use Rattle.std.specs.Map.{values_of}
use Rattle.ring_workers.specs.Holdings.{Holding, nodes_of}
use Rattle.ring_workers.specs.Seatings.{seated_in}
use Rattle.ring_workers.proofs.Moving.{counted_up_to, seated_all, seated_all-values}
use Rattle.ring_workers.proofs.nodes.Nodes.count.Goals as goal

pub loop-seats-init : goal.loop-seats-init
loop-seats-init g c =
    let same : c.into_iter-seats-iterator.result ≡ values_of c.self.inside.groups.entries = c.into_iter-seats-iterator.ensures.into_iter_gives ∙ c.values-seats-items.ensures.rest in
    let all = zero-add _ ∙ ap (λ l. length (seated_all l)) same ∙ ap length (seated_all-values c.self.inside.groups.entries) ∙ ap (λ (h : Holding _ _). length (nodes_of h)) c.self.view_is in
    record { counted = ap (λ n. min n (2 ^ 64 - 1)) all; within = omega arith }

pub loop-seats-preserved : goal.loop-seats-preserved
loop-seats-preserved g c =
    let next = ap (λ l. length (seated_all l)) c.in-Some.ensures.steps ∙ length-append (seated_in c.in-Some.seats.now.places) (seated_all c.next.new.self) in
    record {
      counted = counted_up_to (2 ^ 64 - 1) _ _ _ _ _ _ c.saturating_add-count.ensures c.len.ensures next ∙ c.loop-seats.invariant.counted;
      within = omega (arith, c.saturating_add-count.ensures);
    }

pub returns : goal.returns
returns g c =
    let none = ap (λ l. length (seated_all l)) c.in-None.ensures.steps.0 in
    omega (arith, none, c.loop-seats.invariant.within, c.loop-seats.invariant.counted)
