-- Place by place, the nodes move behind the list.
use Rattle.std.proofs.Common.{◌≡◌, ◌+◌, ◌≤◌, ◌++◌, ◌∷◌, [], length, refl, sym, ap, ◌∙◌, subst, arith, append_assoc, vec_len, vec_capacity}
use Rattle.std.proofs.lemmas.List.{append-nil, nil_from_length}
use Rattle.std.specs.Vec.Iter.{into_iter_items}
use Rattle.ring_workers.specs.Seatings.{seated_in}
use Rattle.ring_workers.proofs.Moving.{seated_in-none, seated_in-some}
use Rattle.ring_workers.proofs.term_nodes.TermNodes.append_to.Goals as goal

pub loop-place-init : goal.loop-place-init
loop-place-init g c =
    let gives : into_iter_items c.into_iter-place-iterator.result ≡ c.self.inside.places.items = (c.into_iter-place-iterator.ensures.into_iter_gives).0 in
    let same = gives ∙ ap (λ s. s.places) c.self.view_is in
    record {
      moved = ap (λ ps. c.args.nodes.now.items ++ seated_in ps) same;
      room = subst (λ ps. vec_len c.args.nodes.now + length (seated_in ps) ≤ vec_capacity c.args.nodes.now) (sym same) c.requires;
      capacity = refl;
    }

pub push_reserved-requires : goal.push_reserved-requires
push_reserved-requires g c =
    let next = ap length (seated_in-some (into_iter_items c.loop-place.place-iterator) c.in-Some.place c.in-Some-place.node (into_iter_items c.next.new.self) c.in-Some.ensures.steps.0 c.in-Some-place.is) in
    omega (arith, next, c.loop-place.invariant.room)

pub loop-place-preserved : goal.loop-place-preserved
loop-place-preserved g c =
    let next = seated_in-none (into_iter_items c.loop-place.place-iterator) c.in-Some.place (into_iter_items c.next.new.self) c.in-Some.ensures.steps.0 c.in-None-place.is in
    record {
      moved = ap (λ l. c.loop-place.nodes.items ++ l) (sym next) ∙ c.loop-place.invariant.moved;
      room = subst (λ l. vec_len c.loop-place.nodes + length l ≤ vec_capacity c.loop-place.nodes) next c.loop-place.invariant.room;
      capacity = c.loop-place.invariant.capacity;
    }

pub loop-place-preserved-in-Some-place : goal.loop-place-preserved-in-Some-place
loop-place-preserved-in-Some-place g c =
    let next = seated_in-some (into_iter_items c.loop-place.place-iterator) c.in-Some.place c.in-Some-place.node (into_iter_items c.next.new.self) c.in-Some.ensures.steps.0 c.in-Some-place.is in
    let longer = ap length next in
    record {
      moved = ap (λ l. l ++ seated_in (into_iter_items c.next.new.self)) c.push_reserved.ensures.items
          ∙ append_assoc c.loop-place.nodes.items (c.in-Some-place.node ∷ []) (seated_in (into_iter_items c.next.new.self))
          ∙ ap (λ l. c.loop-place.nodes.items ++ l) (sym next)
          ∙ c.loop-place.invariant.moved;
      room = omega (arith, longer, c.loop-place.invariant.room, c.push_reserved.ensures.len, c.push_reserved.ensures.capacity);
      capacity = c.push_reserved.ensures.capacity ∙ c.loop-place.invariant.capacity;
    }

pub returns-clause-nodes : goal.returns-clause-nodes
returns-clause-nodes g c =
    let none : into_iter_items c.loop-place.place-iterator ≡ [] = nil_from_length _ (omega (arith, c.in-None.ensures.steps.0, c.loop-place.place-iterator.rest.ok)) in
    sym (append-nil c.loop-place.nodes.items) ∙ ap (λ places. c.loop-place.nodes.items ++ seated_in places) (sym none) ∙ c.loop-place.invariant.moved

pub returns-clause-room : goal.returns-clause-room
returns-clause-room g c = c.loop-place.invariant.capacity
