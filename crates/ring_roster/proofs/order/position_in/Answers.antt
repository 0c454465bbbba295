use Rattle.std.proofs.Common.{rules}
use Rattle.std.proofs.lemmas.Fn.{always_returns_same}
use Rattle.ring_roster.specs.private.Order.{number_at}
use Rattle.ring_roster.proofs.Orders.{absent_in_order, found_in_order}
use Rattle.ring_roster.proofs.order.position_in.Goals as goal

pub returns-in-Ok-clause-some : goal.returns-in-Ok-clause-some
returns-in-Ok-clause-some c =
    let by_number = c.in-Ok.ensures.position (number_at c.args.members.now) (always_returns_same _ _ _ (λ a r f called. search rules)) in
    found_in_order c.args.members.now c.args.order.now c.args.node c.in-Ok.place c.requires c.in-Ok.ensures.bound (rw c.get.ensures.value at by_number)

pub returns-in-Err-clause-none : goal.returns-in-Err-clause-none
returns-in-Err-clause-none c =
    let by_number = c.in-Err.ensures.position (number_at c.args.members.now) (always_returns_same _ _ _ (λ a r f called. search rules)) in
    absent_in_order c.args.members.now c.args.order.now c.args.node _ c.requires (rw c.get.ensures.value at by_number)
