-- The node at a place takes an envelope.
use Rattle.std.proofs.Common.{◌<◌, length, Some, set, refl, sym, ap, ◌∙◌, subst, inl, arith}
use Rattle.std.proofs.lemmas.Option.{get_or_from_slice_get, slice_get_within}
use Rattle.ring_workers.specs.private.Goings.{Goes}
use Rattle.ring_workers.specs.Seatings.{HasNodeAt, seated_in}
use Rattle.ring_workers.proofs.Dropping.{away_handed}
use Rattle.ring_workers.proofs.Handling.{room_found}
use Rattle.ring_workers.proofs.Seatings.{seat_of, seating_set}
use Rattle.ring_workers.proofs.Taking.{back_handed, goes_handed, goes_still, placed_handed, received_handed}
use Rattle.ring_workers.proofs.term_nodes.TermNodes.take.Goals as goal

pub find_room-requires : goal.find_room-requires
find_room-requires g c = c.self.invariant.1

pub returns-then-is_err : goal.returns-then-is_err
returns-then-is_err g c = record {
  term = record { number_is = ap (λ s. s.number) c.self.view_is; workers_is = ap (λ s. s.workers) c.self.view_is; charter_is = ap (λ s. s.charter) c.self.view_is };
  kept = c.self.invariant.0;
  goes = goes_still g.E.RingElection.table _ _ _ _ (ap (λ s. seated_in s.places) c.self.view_is) c.find_room.ensures.outbox;
  received = tt;
  away = inl refl;
  back = refl;
}

pub index_mut-requires : goal.index_mut-requires
index_mut-requires g c =
    let h = subst (λ s. HasNodeAt (seated_in s.places) s.charter c.args.position) (sym c.self.view_is) c.requires.seated in
    let here = seat_of c.self.inside.owner.number c.self.inside.owner.workers c.self.inside.charter.value c.self.inside.places.items c.args.position c.self.invariant.0 h in
    let within : c.args.position < length c.self.inside.places.items = slice_get_within c.self.inside.places.items c.args.position (Some h.node) here in
    omega (arith, c.self.inside.places.ok)

pub unreachable-requires : goal.unreachable-requires
unreachable-requires g c =
    let h = subst (λ s. HasNodeAt (seated_in s.places) s.charter c.args.position) (sym c.self.view_is) c.requires.seated in
    let here = seat_of c.self.inside.owner.number c.self.inside.owner.workers c.self.inside.charter.value c.self.inside.places.items c.args.position c.self.invariant.0 h in
    c.in_default.not-Some h.node (c.index_mut.ensures.value ∙ get_or_from_slice_get c.self.inside.places.items c.args.position (Some h.node) c.index_mut.result.now here)

pub hand_to-requires-clause-copies : goal.hand_to-requires-clause-copies
hand_to-requires-clause-copies g c =
    let h = subst (λ s. HasNodeAt (seated_in s.places) s.charter c.args.position) (sym c.self.view_is) c.requires.seated in
    let here = seat_of c.self.inside.owner.number c.self.inside.owner.workers c.self.inside.charter.value c.self.inside.places.items c.args.position c.self.invariant.0 h in
    let there = here ∙ ap Some (sym (c.index_mut.ensures.value ∙ get_or_from_slice_get c.self.inside.places.items c.args.position (Some h.node) c.index_mut.result.now here) ∙ c.in-Some.is) in
    λ k d lt. c.find_room.ensures.copies k d lt ∙ sym (c.self.invariant.0.each c.args.position c.in-Some.node there).charter_is

pub hand_to-requires-clause-many : goal.hand_to-requires-clause-many
hand_to-requires-clause-many g c = room_found c.find_room.result _ c.find_room.ensures.many c.if-is_err.ensures.value

pub hand_to-requires-clause-room : goal.hand_to-requires-clause-room
hand_to-requires-clause-room g c = room_found c.find_room.result _ c.find_room.ensures.room c.if-is_err.ensures.value

pub returns-clause-term : goal.returns-clause-term
returns-clause-term g c = record { number_is = ap (λ s. s.number) c.self.view_is; workers_is = ap (λ s. s.workers) c.self.view_is; charter_is = ap (λ s. s.charter) c.self.view_is }

pub returns-clause-kept : goal.returns-clause-kept
returns-clause-kept g c =
    let h = subst (λ s. HasNodeAt (seated_in s.places) s.charter c.args.position) (sym c.self.view_is) c.requires.seated in
    let here = seat_of c.self.inside.owner.number c.self.inside.owner.workers c.self.inside.charter.value c.self.inside.places.items c.args.position c.self.invariant.0 h in
    let there = here ∙ ap Some (sym (c.index_mut.ensures.value ∙ get_or_from_slice_get c.self.inside.places.items c.args.position (Some h.node) c.index_mut.result.now here) ∙ c.in-Some.is) in
    let placed = c.self.invariant.0.each c.args.position c.in-Some.node there in
    seating_set c.self.inside.owner.number c.self.inside.owner.workers c.self.inside.charter.value c.self.inside.places.items c.args.position c.hand_to.new.node c.self.invariant.0
    (placed_handed g.E.RingElection.table c.self.inside.places.items c.args.position c.in-Some.node c.hand_to.new.node there c.args.envelope c.find_room.new.outbox.items c.hand_to.new.outbox.items
    c.hand_to.result c.hand_to.ensures.handed c.self.inside.owner.number c.self.inside.owner.workers c.self.inside.charter.value placed)

pub invariant_of-self-2 : goal.invariant_of-self-2
invariant_of-self-2 g c =
    let h = subst (λ s. HasNodeAt (seated_in s.places) s.charter c.args.position) (sym c.self.view_is) c.requires.seated in
    let here = seat_of c.self.inside.owner.number c.self.inside.owner.workers c.self.inside.charter.value c.self.inside.places.items c.args.position c.self.invariant.0 h in
    let there = here ∙ ap Some (sym (c.index_mut.ensures.value ∙ get_or_from_slice_get c.self.inside.places.items c.args.position (Some h.node) c.index_mut.result.now here) ∙ c.in-Some.is) in
    let placed = c.self.invariant.0.each c.args.position c.in-Some.node there in
    (returns-clause-kept g c, λ k d lt. c.hand_to.ensures.copies k d lt ∙ placed.charter_is)

pub returns-clause-goes : goal.returns-clause-goes
returns-clause-goes g c =
    let h = subst (λ s. HasNodeAt (seated_in s.places) s.charter c.args.position) (sym c.self.view_is) c.requires.seated in
    let here = seat_of c.self.inside.owner.number c.self.inside.owner.workers c.self.inside.charter.value c.self.inside.places.items c.args.position c.self.invariant.0 h in
    let there = here ∙ ap Some (sym (c.index_mut.ensures.value ∙ get_or_from_slice_get c.self.inside.places.items c.args.position (Some h.node) c.index_mut.result.now here) ∙ c.in-Some.is) in
    subst (λ s. Goes g.E.RingElection.table (seated_in s.places) (seated_in (set c.self.inside.places.items c.args.position (Some c.hand_to.new.node))) c.args.outbox.now.items c.hand_to.new.outbox.items) c.self.view_is
    (subst (λ u. Goes g.E.RingElection.table (seated_in c.self.inside.places.items) (seated_in (set c.self.inside.places.items c.args.position (Some c.hand_to.new.node))) u c.hand_to.new.outbox.items) c.find_room.ensures.outbox
    (goes_handed g.E.RingElection.table c.self.inside.places.items c.args.position c.in-Some.node c.hand_to.new.node there c.args.envelope c.find_room.new.outbox.items c.hand_to.new.outbox.items
    c.hand_to.result c.hand_to.ensures.handed c.hand_to.ensures.gains))

pub returns-clause-received : goal.returns-clause-received
returns-clause-received g c =
    let h = subst (λ s. HasNodeAt (seated_in s.places) s.charter c.args.position) (sym c.self.view_is) c.requires.seated in
    let here = seat_of c.self.inside.owner.number c.self.inside.owner.workers c.self.inside.charter.value c.self.inside.places.items c.args.position c.self.invariant.0 h in
    let there = here ∙ ap Some (sym (c.index_mut.ensures.value ∙ get_or_from_slice_get c.self.inside.places.items c.args.position (Some h.node) c.index_mut.result.now here) ∙ c.in-Some.is) in
    received_handed g.E.RingElection.table c.self.inside.places.items c.args.position c.in-Some.node c.hand_to.new.node there c.args.envelope c.find_room.new.outbox.items c.hand_to.new.outbox.items
    c.hand_to.result c.hand_to.ensures.handed c.hand_to.ensures.gains

pub returns-clause-back : goal.returns-clause-back
returns-clause-back g c =
    let h = subst (λ s. HasNodeAt (seated_in s.places) s.charter c.args.position) (sym c.self.view_is) c.requires.seated in
    let here = seat_of c.self.inside.owner.number c.self.inside.owner.workers c.self.inside.charter.value c.self.inside.places.items c.args.position c.self.invariant.0 h in
    let there = here ∙ ap Some (sym (c.index_mut.ensures.value ∙ get_or_from_slice_get c.self.inside.places.items c.args.position (Some h.node) c.index_mut.result.now here) ∙ c.in-Some.is) in
    back_handed g.E.RingElection.table c.self.inside.places.items c.args.position c.in-Some.node c.hand_to.new.node there c.args.envelope c.find_room.new.outbox.items c.hand_to.new.outbox.items
    c.hand_to.result c.hand_to.ensures.handed

pub returns-clause-away : goal.returns-clause-away
returns-clause-away g c =
    let h = subst (λ s. HasNodeAt (seated_in s.places) s.charter c.args.position) (sym c.self.view_is) c.requires.seated in
    let here = seat_of c.self.inside.owner.number c.self.inside.owner.workers c.self.inside.charter.value c.self.inside.places.items c.args.position c.self.invariant.0 h in
    let there = here ∙ ap Some (sym (c.index_mut.ensures.value ∙ get_or_from_slice_get c.self.inside.places.items c.args.position (Some h.node) c.index_mut.result.now here) ∙ c.in-Some.is) in
    away_handed g.E.RingElection.table c.self.inside.places.items c.args.position c.in-Some.node c.hand_to.new.node there c.args.envelope c.find_room.new.outbox.items c.hand_to.new.outbox.items
    c.hand_to.result c.hand_to.ensures.handed c.hand_to.ensures.refused c.self.inside.owner.number c.self.inside.owner.workers c.self.inside.charter.value
    (c.self.invariant.0.each c.args.position c.in-Some.node there) c.requires.led
