-- Each position is looked at.
use Rattle.std.proofs.Common.{refl, arith, inl, inr}
use Rattle.ring_world.proofs.Links.{same_or_not}
use Rattle.ring_world.proofs.settlement.are_settled.Goals as goal

pub loop-position-init : goal.loop-position-init
loop-position-init g c = λ i below. absurd (omega arith)

pub is_settled_at-requires-clause-inside : goal.is_settled_at-requires-clause-inside
is_settled_at-requires-clause-inside g c = rw (c.len-position-end.ensures.value, c.roster.ensures) at c.loop-position-test.true

pub is_settled_at-requires-clause-placed : goal.is_settled_at-requires-clause-placed
is_settled_at-requires-clause-placed g c = c.requires

pub returns-then-not-is_settled_at-clause-settled : goal.returns-then-not-is_settled_at-clause-settled
returns-then-not-is_settled_at-clause-settled g c =
    let inside = rw (c.len-position-end.ensures.value, c.roster.ensures) at c.loop-position-test.true in
    (λ never. cc, λ settled. c.if-not-is_settled_at.ensures.1 (settled.each c.loop-position.position inside))

pub returns-then-not-is_settled_at-clause-ring : goal.returns-then-not-is_settled_at-clause-ring
returns-then-not-is_settled_at-clause-ring g c = rw c.roster.ensures at c.len-position-end.ensures.ring

pub loop-position-preserved : goal.loop-position-preserved
loop-position-preserved g c = λ i below.
    elim (same_or_not i c.loop-position.position) [
      | inl here ↦ rw here (c.if-not-is_settled_at.ensures.0 refl)
      | inr differ ↦ c.loop-position.invariant i (omega arith)
    ]

pub returns-clause-settled : goal.returns-clause-settled
returns-clause-settled g c =
    let size = rw c.roster.ensures at c.len-position-end.ensures.value in
    (λ answer. record { each = λ i below. c.loop-position.invariant i (omega arith) }, λ settled. refl)

pub returns-clause-ring : goal.returns-clause-ring
returns-clause-ring g c = rw c.roster.ensures at c.len-position-end.ensures.ring
