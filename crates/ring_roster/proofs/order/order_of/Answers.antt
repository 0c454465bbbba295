use Rattle.std.proofs.Common.{arith, rules}
use Rattle.std.proofs.lemmas.List.Sorted.{IsNonDecreasingBy-from_sort_by_key}
use Rattle.ring_roster.specs.private.Order.{number_at}
use Rattle.ring_roster.proofs.Orders.{first_more, order_of_all}
use Rattle.ring_roster.proofs.order.order_of.Goals as goal

pub loop-position-preserved : goal.loop-position-preserved
loop-position-preserved c = record {
  first = rw c.push_reserved.ensures.items (first_more c.args.members.now c.loop-position.order.items c.loop-position.position (omega arith) c.loop-position.invariant.first);
  len = omega arith;
  room = omega arith;
}

pub returns : goal.returns
returns c =
    order_of_all c.args.members.now c.loop-position.order.items c.sort_unstable_by_key.new.self.items c.loop-position.position c.loop-position.invariant.first (omega arith) c.sort_unstable_by_key.ensures.permutation
    (IsNonDecreasingBy-from_sort_by_key (number_at c.args.members.now) _ c.sort_unstable_by_key.ensures.sorted (λ a r f called. search rules))
