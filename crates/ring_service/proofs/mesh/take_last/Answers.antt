-- The inboxes so far have lost their last sender, and the other inboxes are unchanged.
use Rattle.std.proofs.Common.{◌≡◌, ℕ, List, [], ◌∷◌, ◌++◌, get_or, length, drop, take, subst, sym, ◌∙◌, arith}
use Rattle.std.proofs.lemmas.List.{length-set, take-append-le, take_all}
use Rattle.ring_service.proofs.Meshing.{takes_more}
use Rattle.ring_service.proofs.mesh.take_last.Goals as goal

-- of two lists joined, the first elements, as many as the first list has, are the first list
take-whole : {X : Type 0} (xs ys : List X) (n : ℕ) → n ≡ length xs → take n (xs ++ ys) ≡ xs
take-whole xs ys n e = take-append-le n xs ys (omega (arith, e)) ∙ take_all n xs (omega (arith, e))

pub loop-senders-preserved : goal.loop-senders-preserved
loop-senders-preserved g c = record {
  takes = takes_more c.loop-senders.senders-index c.args.inboxes.now.items c.loop-senders.senders-items c.loop-senders.taken.items c.push_reserved.new.self.items c.senders-item.result c.pop.new.self
      c.unwrap.result c.loop-senders.invariant.takes (omega arith) c.senders-item.is (rw (c.unwrap.ensures, ← c.senders-item.is) at c.pop.ensures.items) c.push_reserved.ensures.items;
  room = omega (arith, length-set c.loop-senders.senders-items c.loop-senders.senders-index c.pop.new.self, c.push_reserved.ensures.capacity, c.loop-senders.invariant.room);
}

pub returns-clause-lasts : goal.returns-clause-lasts
returns-clause-lasts g c = λ v list last within.
    let whole : take c.args.inboxes.now.len (c.loop-senders.senders-items ++ drop (length c.loop-senders.senders-items) c.args.inboxes.now.items) ≡ c.loop-senders.senders-items =
    take-whole c.loop-senders.senders-items _ c.args.inboxes.now.len (omega arith) in
    subst (λ lists. (get_or c.args.inboxes.now.items v list).items ≡ (get_or lists v list).items ++ get_or c.loop-senders.taken.items v last ∷ []) (sym whole)
    (c.loop-senders.invariant.takes.lasts v list last (omega (arith, within, c.loop-senders.invariant.takes.count)))
