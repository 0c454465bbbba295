-- The history goes on with the entry of the start, which is a step of the book.
use Rattle.std.proofs.Common.{◌≡◌, rules}
use Rattle.ring_table.specs.Histories.{starved}
use Rattle.ring_table.proofs.Following.{follows_more}
use Rattle.ring_table.proofs.recorded.Recorded.begin.Goals as goal

pub invariant_of-self-2 : goal.invariant_of-self-2
invariant_of-self-2 g c =
    let granted : c.start_shared-reply.result.0 ≡ starved → ⊥ = search rules in
    rw (c.record_call.ensures.added, c.in-Ok.ensures.items)
    (follows_more _ _ _ _ _ _ _ c.self.invariant (record { step = c.start_shared-reply.ensures.step; granted = granted }))
