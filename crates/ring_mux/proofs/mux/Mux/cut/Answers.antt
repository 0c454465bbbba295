-- The link into the member's seat is cut.
use Rattle.std.proofs.Common.{rules, false, refl}
use Rattle.ring_world.specs.Worlds.{Cuts}
use Rattle.ring_terms.specs.Object.{names}
use Rattle.ring_mux.specs.Views.{placed}
use Rattle.ring_mux.proofs.Carrying.{seat_inside}
use Rattle.ring_mux.proofs.Cutting.{kept_cut}
use Rattle.ring_mux.proofs.Outcomes.{of_found}
use Rattle.ring_mux.proofs.Places.{kept_written, place_inside, slot_filled, view_written, world_read}
use Rattle.ring_mux.proofs.Seats.{cut_at, cut_worlds, refused_as_who, seat_on_ring, seat_runs}
use Rattle.ring_mux.proofs.mux.Mux.cut.Goals as goal

pub index_mut-requires : goal.index_mut-requires
index_mut-requires g c =
    let at = rw (← c.self.view_is) at c.in-Ok.ensures.1 in
    let runs = seat_runs c.args.group c.self.inside.book at.1 in
    let inside = place_inside g.E.RingElection.table c.self.inside.book c.self.inside.worlds.items c.self.invariant.held.held c.args.group c.in-Ok.seat.0 at.0 runs in
    search (rules, inside)

pub returns-in_default-clause-object : goal.returns-in_default-clause-object
returns-in_default-clause-object g c =
    let at = rw (← c.self.view_is) at c.in-Ok.ensures.1 in
    let runs = seat_runs c.args.group c.self.inside.book at.1 in
    absurd (slot_filled g.E.RingElection.table c.self.inside.book c.self.inside.worlds.items c.self.invariant.held.held c.args.group c.in-Ok.seat.0 at.0 runs c.index_mut.result.now c.index_mut.ensures.value c.in_default.is)

pub returns-in_default-clause-worlds : goal.returns-in_default-clause-worlds
returns-in_default-clause-worlds g c =
    let at = rw (← c.self.view_is) at c.in-Ok.ensures.1 in
    let runs = seat_runs c.args.group c.self.inside.book at.1 in
    absurd (slot_filled g.E.RingElection.table c.self.inside.book c.self.inside.worlds.items c.self.invariant.held.held c.args.group c.in-Ok.seat.0 at.0 runs c.index_mut.result.now c.index_mut.ensures.value c.in_default.is)

pub cut-requires : goal.cut-requires
cut-requires g c =
    let at = rw (← c.self.view_is) at c.in-Ok.ensures.1 in
    let runs = seat_runs c.args.group c.self.inside.book at.1 in
    let worlds = placed (names c.self.inside.book) c.self.inside.worlds.items in
    let read = world_read g.E.RingElection.table c.self.inside.book c.self.inside.worlds.items c.self.invariant.held.held c.args.group c.in-Ok.seat.0 at.0 runs c.index_mut.result.now c.in-Some.world c.index_mut.ensures.value c.in-Some.is in
    seat_inside g.E.RingElection.table c.self.inside.book worlds c.self.invariant.held.held c.args.group c.in-Some.world read.1 c.in-Ok.seat.1 (seat_on_ring c.args.group c.self.inside.book c.args.node c.in-Ok.seat.1 at.1)

pub invariant_of-self-2 : goal.invariant_of-self-2
invariant_of-self-2 g c =
    let at = rw (← c.self.view_is) at c.in-Ok.ensures.1 in
    let runs = seat_runs c.args.group c.self.inside.book at.1 in
    let worlds = placed (names c.self.inside.book) c.self.inside.worlds.items in
    let read = world_read g.E.RingElection.table c.self.inside.book c.self.inside.worlds.items c.self.invariant.held.held c.args.group c.in-Ok.seat.0 at.0 runs c.index_mut.result.now c.in-Some.world c.index_mut.ensures.value c.in-Some.is in
    let kept = kept_cut g.E.RingElection.table g.E.RingElection.fits g.E.RingElection.winner c.self.inside.book worlds c.self.invariant.held c.args.group c.in-Some.world read.1 c.in-Ok.seat.1 c.args.side
    _ c.cut.result c.cut.new.self c.cut.ensures.cuts c.cut.ensures.sound in
    kept_written c.self.inside.book c.self.inside.book refl c.self.inside.worlds.items c.args.group c.in-Ok.seat.0 at.0 c.in-Some.world c.cut.new.self read.0 g.E.RingElection.table g.E.RingElection.fits g.E.RingElection.winner
    c.self.invariant.few kept

pub returns-clause-object : goal.returns-clause-object
returns-clause-object g c =
    let at = rw (← c.self.view_is) at c.in-Ok.ensures.1 in
    let runs = seat_runs c.args.group c.self.inside.book at.1 in
    let worlds = placed (names c.self.inside.book) c.self.inside.worlds.items in
    let read = world_read g.E.RingElection.table c.self.inside.book c.self.inside.worlds.items c.self.invariant.held.held c.args.group c.in-Ok.seat.0 at.0 runs c.index_mut.result.now c.in-Some.world c.index_mut.ensures.value c.in-Some.is in
    let cuts = of_found c.args.group worlds c.in-Some.world read.1 (λ w. Cuts (g.E.RingElection.is_two_way w.charter.algorithm) w c.in-Ok.seat.1 c.args.side c.cut.result c.cut.new.self) c.cut.ensures.cuts in
    rw (c.done.ensures, ← c.self.view_is)
    (cut_at g.E.RingElection.table c.self.inside.book worlds c.self.invariant.held.held g.E.RingElection.is_two_way g.E.RingElection.is_greatest c.args.group c.args.node c.in-Ok.seat.1 at.1 c.args.side
    c.cut.result c.cut.new.self cuts)

pub returns-clause-worlds : goal.returns-clause-worlds
returns-clause-worlds g c =
    let at = rw (← c.self.view_is) at c.in-Ok.ensures.1 in
    let runs = seat_runs c.args.group c.self.inside.book at.1 in
    let worlds = placed (names c.self.inside.book) c.self.inside.worlds.items in
    let read = world_read g.E.RingElection.table c.self.inside.book c.self.inside.worlds.items c.self.invariant.held.held c.args.group c.in-Ok.seat.0 at.0 runs c.index_mut.result.now c.in-Some.world c.index_mut.ensures.value c.in-Some.is in
    let cuts = of_found c.args.group worlds c.in-Some.world read.1 (λ w. Cuts (g.E.RingElection.is_two_way w.charter.algorithm) w c.in-Ok.seat.1 c.args.side c.cut.result c.cut.new.self) c.cut.ensures.cuts in
    let view = view_written c.self.inside.book c.self.inside.book refl c.self.inside.worlds.items c.args.group c.in-Ok.seat.0 at.0 c.in-Some.world c.cut.new.self read.0 in
    rw (c.done.ensures, ← c.self.view_is, view)
    (cut_worlds g.E.RingElection.table c.self.inside.book worlds c.self.invariant.held.held g.E.RingElection.is_two_way g.E.RingElection.is_greatest c.args.group c.args.node c.in-Ok.seat.1 at.1 c.args.side
    c.cut.result c.cut.new.self cuts)

pub returns-in-Err-clause-object : goal.returns-in-Err-clause-object
returns-in-Err-clause-object g c = (refl, refused_as_who g.E.RingElection.is_two_way c.args.node c.args.side c.in-Err.refusal false c.args.group c.args.self.now.object c.in-Err.ensures)

pub returns-in-Err-clause-worlds : goal.returns-in-Err-clause-worlds
returns-in-Err-clause-worlds g c = refl

pub invariant_of-self : goal.invariant_of-self
invariant_of-self g c =
    let at = rw (← c.self.view_is) at c.in-Ok.ensures.1 in
    let runs = seat_runs c.args.group c.self.inside.book at.1 in
    absurd (slot_filled g.E.RingElection.table c.self.inside.book c.self.inside.worlds.items c.self.invariant.held.held c.args.group c.in-Ok.seat.0 at.0 runs c.index_mut.result.now c.index_mut.ensures.value c.in_default.is)
