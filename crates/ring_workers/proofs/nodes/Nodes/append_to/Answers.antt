-- Group by group, the nodes move behind the list.
use Rattle.std.proofs.Common.{◌+◌, ◌≤◌, ◌++◌, length, sym, ap, ◌∙◌, subst, arith, append_assoc, length-append, vec_len, vec_capacity}
use Rattle.std.proofs.lemmas.List.{append-nil}
use Rattle.ring_workers.specs.Holdings.{nodes_in}
use Rattle.ring_workers.specs.Seatings.{seated_in}
use Rattle.ring_workers.proofs.Moving.{nodes_next}
use Rattle.ring_workers.proofs.nodes.Nodes.append_to.Goals as goal

pub loop-seats-init : goal.loop-seats-init
loop-seats-init g c =
    let same = c.into_iter-seats-iterator.ensures.into_iter_gives.0 ∙ ap (λ h. h.groups) c.self.view_is in
    record {
      moved = ap (λ gs. c.args.nodes.now.items ++ nodes_in gs) same;
      room = subst (λ gs. vec_len c.args.nodes.now + length (nodes_in gs) ≤ vec_capacity c.args.nodes.now) (sym same) c.requires;
    }

pub append_to-requires : goal.append_to-requires
append_to-requires g c =
    let next = nodes_next c.loop-seats.seats-iterator c.in-Some.field-0-0 c.in-Some.seats c.next.new.self c.in-Some.ensures.steps in
    omega (arith, next, c.loop-seats.invariant.room)

pub loop-seats-preserved : goal.loop-seats-preserved
loop-seats-preserved g c =
    let next = nodes_next c.loop-seats.seats-iterator c.in-Some.field-0-0 c.in-Some.seats c.next.new.self c.in-Some.ensures.steps in
    let grown = ap length c.append_to.ensures.nodes ∙ length-append c.loop-seats.nodes.items (seated_in c.in-Some.seats.places) in
    record {
      moved = ap (λ l. l ++ nodes_in c.next.new.self) c.append_to.ensures.nodes
          ∙ append_assoc c.loop-seats.nodes.items (seated_in c.in-Some.seats.places) (nodes_in c.next.new.self)
          ∙ ap (λ gs. c.loop-seats.nodes.items ++ nodes_in gs) (sym c.in-Some.ensures.steps)
          ∙ c.loop-seats.invariant.moved;
      room = omega (arith, next, grown, c.loop-seats.invariant.room, c.append_to.ensures.room, c.append_to.new.nodes.ok, c.loop-seats.nodes.ok);
    }

pub returns : goal.returns
returns g c = sym (append-nil c.loop-seats.nodes.items) ∙ ap (λ gs. c.loop-seats.nodes.items ++ nodes_in gs) (sym c.in-None.ensures.steps.0) ∙ c.loop-seats.invariant.moved
