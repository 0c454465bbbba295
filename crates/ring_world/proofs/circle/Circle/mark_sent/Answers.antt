-- Something stands on the link from the sender, and so its bit is put unless it is cut.
use Rattle.std.proofs.Common.{Bool, cond, ap, sym, ◌∙◌, inr, arith}
use Rattle.std.specs.Prelude.{not}
use Rattle.ring_world.specs.private.LinkSets.{bit_of}
use Rattle.ring_world.proofs.Marks.{one_put}
use Rattle.ring_world.proofs.circle.Circle.mark_sent.Goals as goal

pub sent-requires : goal.sent-requires
sent-requires g c = c.requires.inside

pub overflow_sub-more : goal.overflow_sub-more
overflow_sub-more g c = omega (arith, c.requires.grown, c.sent.ensures)

pub neighbour-receiver-requires : goal.neighbour-receiver-requires
neighbour-receiver-requires g c = c.requires.inside

pub place_of-place-requires : goal.place_of-place-requires
place_of-place-requires g c = c.neighbour-receiver.ensures.few

pub is_cut-requires : goal.is_cut-requires
is_cut-requires g c = c.neighbour-receiver.ensures.inside

pub put-requires : goal.put-requires
put-requires g c = c.place_of-place.ensures.inside

pub insert-requires : goal.insert-requires
insert-requires g c = c.place_of-place.ensures.inside

pub returns-then-is_cut-clause-marked : goal.returns-then-is_cut-clause-marked
returns-then-is_cut-clause-marked g c =
    let place = rw (c.neighbour-receiver.ensures.value, c.other-from.ensures) at c.place_of-place.ensures.value in
    let cut = rw (c.neighbour-receiver.ensures.value, c.other-from.ensures) at c.is_cut.ensures in
    let waits = c.requires.waits (omega (arith, c.if-more-gt0.true, c.sent.ensures)) in
    inr
    (one_put g.E.RingElection.table c.args.self.now c.args.ready.now.words c.put.new.self.words c.args.position c.args.to c.requires.inside waits
    (omega (arith, c.sent.ensures, c.sent.type_inv))
    (ap (bit_of c.put.new.self.words) (sym place) ∙ c.put.ensures.here ∙ ap (λ (b : Bool). cond (not b) 1 0) (sym c.if-is_cut.true ∙ cut))
    (rw place at c.put.ensures.others))

pub returns-else-is_cut-clause-marked : goal.returns-else-is_cut-clause-marked
returns-else-is_cut-clause-marked g c =
    let place = rw (c.neighbour-receiver.ensures.value, c.other-from.ensures) at c.place_of-place.ensures.value in
    let cut = rw (c.neighbour-receiver.ensures.value, c.other-from.ensures) at c.is_cut.ensures in
    let waits = c.requires.waits (omega (arith, c.if-more-gt0.true, c.sent.ensures)) in
    inr
    (one_put g.E.RingElection.table c.args.self.now c.args.ready.now.words c.insert.new.self.words c.args.position c.args.to c.requires.inside waits
    (omega (arith, c.sent.ensures, c.sent.type_inv))
    (ap (bit_of c.insert.new.self.words) (sym place) ∙ c.insert.ensures.here ∙ ap (λ (b : Bool). cond (not b) 1 0) (sym c.if-is_cut.false ∙ cut))
    (rw place at c.insert.ensures.others))
