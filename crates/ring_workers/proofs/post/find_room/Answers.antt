use Rattle.std.proofs.Common.{◌≡◌, sym, subst, arith}
use Rattle.std.specs.Prelude.{All}
use Rattle.std.proofs.lemmas.List.Elements.{All-push}
use Rattle.ring_workers.proofs.Posting.{more_fits, more_many, more_room}
use Rattle.ring_workers.proofs.post.find_room.Goals as goal

pub loop-init : goal.loop-init
loop-init g c = record {
  copies = subst (λ cs. All (λ copy. copy.value ≡ c.args.charter.now.value) cs) (sym c.reserve-2.ensures.items) c.requires;
  many = omega arith;
  room = omega (arith, c.in_ok-reserve-2.ensures.ok);
}

pub push_reserved-requires : goal.push_reserved-requires
push_reserved-requires g c = more_fits _ _ _ _ c.loop.invariant.room c.loop-test.true

pub loop-preserved : goal.loop-preserved
loop-preserved g c = record {
  copies = subst (λ cs. All (λ copy. copy.value ≡ c.args.charter.now.value) cs) (sym c.push_reserved.ensures.items)
      (All-push (λ copy. copy.value ≡ c.args.charter.now.value) c.loop.copies.items c.in_ok-try_clone.field-0 c.loop.invariant.copies c.in_ok-try_clone.ensures);
  many = more_many _ _ _ _ c.push_reserved.ensures.len c.loop.invariant.many;
  room = more_room _ _ _ _ _ _ c.push_reserved.ensures.len c.push_reserved.ensures.capacity c.loop.invariant.room;
}
