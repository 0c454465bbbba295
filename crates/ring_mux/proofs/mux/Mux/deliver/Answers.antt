-- The delivery is made at the member's seat.
use Rattle.std.proofs.Common.{rules, true, refl, inl, inr}
use Rattle.ring_terms.specs.Object.{names}
use Rattle.ring_mux.specs.Views.{placed}
use Rattle.ring_mux.proofs.Carrying.{seat_inside}
use Rattle.ring_mux.proofs.Outcomes.{of_found}
use Rattle.ring_mux.proofs.Places.{kept_written, place_at, place_inside, slot_filled, view_written, world_read}
use Rattle.ring_mux.proofs.Seats.{carries_at, idle_at, moved_at, refused_as_who, refused_at, refused_carries, seat_grows_nothing, seat_on_ring, seat_runs}
use Rattle.ring_mux.proofs.mux.Mux.deliver.Goals as goal
use Rattle.ring_mux.proofs.mux.Mux.deliver.Goals.{in-Moved, in-Idle, in-Refused}

pub index_mut-requires : goal.index_mut-requires
index_mut-requires g c =
    let at = rw (← c.self.view_is) at c.in-Ok.ensures.1 in
    let runs = seat_runs c.args.group c.self.inside.book at.1 in
    let inside = place_inside g.E.RingElection.table c.self.inside.book c.self.inside.worlds.items c.self.invariant.held.held c.args.group c.in-Ok.seat.0 at.0 runs in
    search (rules, inside)

pub returns-in_default-clause-object : goal.returns-in_default-clause-object
returns-in_default-clause-object g c =
    let at = rw (← c.self.view_is) at c.in-Ok.ensures.1 in
    let runs = seat_runs c.args.group c.self.inside.book at.1 in
    absurd (slot_filled g.E.RingElection.table c.self.inside.book c.self.inside.worlds.items c.self.invariant.held.held c.args.group c.in-Ok.seat.0 at.0 runs c.index_mut.result.now c.index_mut.ensures.value c.in_default.is)

pub returns-in_default-clause-worlds : goal.returns-in_default-clause-worlds
returns-in_default-clause-worlds g c =
    let at = rw (← c.self.view_is) at c.in-Ok.ensures.1 in
    let runs = seat_runs c.args.group c.self.inside.book at.1 in
    absurd (slot_filled g.E.RingElection.table c.self.inside.book c.self.inside.worlds.items c.self.invariant.held.held c.args.group c.in-Ok.seat.0 at.0 runs c.index_mut.result.now c.index_mut.ensures.value c.in_default.is)

pub carry-requires : goal.carry-requires
carry-requires g c =
    let at = rw (← c.self.view_is) at c.in-Ok.ensures.1 in
    let runs = seat_runs c.args.group c.self.inside.book at.1 in
    let worlds = placed (names c.self.inside.book) c.self.inside.worlds.items in
    let read = world_read g.E.RingElection.table c.self.inside.book c.self.inside.worlds.items c.self.invariant.held.held c.args.group c.in-Ok.seat.0 at.0 runs c.index_mut.result.now c.in-Some.world c.index_mut.ensures.value c.in-Some.is in
    record {
      stands = record {
        name = c.args.group;
        worlds = worlds;
        kept = c.self.invariant.held;
        found = read.1;
        runs = runs;
        placed = place_at c.args.group c.in-Ok.seat.0 (names c.self.inside.book) at.0;
      };
      inside = seat_inside g.E.RingElection.table c.self.inside.book worlds c.self.invariant.held.held c.args.group c.in-Some.world read.1 c.in-Ok.seat.1
          (seat_on_ring c.args.group c.self.inside.book c.args.node c.in-Ok.seat.1 at.1);
    }

pub invariant_of-self-2 : goal.invariant_of-self-2
invariant_of-self-2 g c =
    let at = rw (← c.self.view_is) at c.in-Ok.ensures.1 in
    let runs = seat_runs c.args.group c.self.inside.book at.1 in
    let worlds = placed (names c.self.inside.book) c.self.inside.worlds.items in
    let read = world_read g.E.RingElection.table c.self.inside.book c.self.inside.worlds.items c.self.invariant.held.held c.args.group c.in-Ok.seat.0 at.0 runs c.index_mut.result.now c.in-Some.world c.index_mut.ensures.value c.in-Some.is in
    let seat = seat_on_ring c.args.group c.self.inside.book c.args.node c.in-Ok.seat.1 at.1 in
    let carried = c.carry.ensures c.args.group worlds c.self.invariant.held read.1 seat in
    kept_written c.self.inside.book c.carry.new.book (carried.2) c.self.inside.worlds.items c.args.group c.in-Ok.seat.0 at.0 c.in-Some.world c.carry.new.world read.0 g.E.RingElection.table g.E.RingElection.fits g.E.RingElection.winner
    c.self.invariant.few (carried.1)

pub returns-clause-object : goal.returns-clause-object
returns-clause-object g c =
    let at = rw (← c.self.view_is) at c.in-Ok.ensures.1 in
    let runs = seat_runs c.args.group c.self.inside.book at.1 in
    let worlds = placed (names c.self.inside.book) c.self.inside.worlds.items in
    let read = world_read g.E.RingElection.table c.self.inside.book c.self.inside.worlds.items c.self.invariant.held.held c.args.group c.in-Ok.seat.0 at.0 runs c.index_mut.result.now c.in-Some.world c.index_mut.ensures.value c.in-Some.is in
    let seat = seat_on_ring c.args.group c.self.inside.book c.args.node c.in-Ok.seat.1 at.1 in
    let found = of_found c.args.group worlds c.in-Some.world read.1 in
    let carry = c.carry.ensures in
    elim c.match-carry.branch [
      | in-Moved w ↦
          let done = moved_at g.E.RingElection.table c.self.inside.book worlds c.self.invariant.held.held g.E.RingElection.is_two_way g.E.RingElection.is_greatest c.args.group c.args.node c.in-Ok.seat.1 at.1 c.args.side
          _ (found _ ((rw w.in-Moved.is at carry) c.args.group worlds c.self.invariant.held read.1 seat).0) in
          rw (w.result-is, ← c.self.view_is) (done.0, inr (refl, done.1))
      | in-Idle w ↦
          let done = idle_at g.E.RingElection.table c.self.inside.book worlds c.self.invariant.held.held g.E.RingElection.is_two_way g.E.RingElection.is_greatest c.args.group c.args.node c.in-Ok.seat.1 at.1 c.args.side
          _ (found _ ((rw w.in-Idle.is at carry) c.args.group worlds c.self.invariant.held read.1 seat).0) in
          rw (w.result-is, ← c.self.view_is) (done.0, inl (refl, done.1))
      | in-Refused w ↦
          rw (w.result-is, ← c.self.view_is)
          (refused_at g.E.RingElection.table c.self.inside.book worlds c.self.invariant.held.held g.E.RingElection.is_two_way g.E.RingElection.is_greatest c.args.group c.args.node c.in-Ok.seat.1 at.1 c.args.side
          _ w.in-Refused.refusal (found _ ((rw w.in-Refused.is at carry) c.args.group worlds c.self.invariant.held read.1 seat).0))
    ]

pub returns-clause-worlds : goal.returns-clause-worlds
returns-clause-worlds g c =
    let at = rw (← c.self.view_is) at c.in-Ok.ensures.1 in
    let runs = seat_runs c.args.group c.self.inside.book at.1 in
    let worlds = placed (names c.self.inside.book) c.self.inside.worlds.items in
    let read = world_read g.E.RingElection.table c.self.inside.book c.self.inside.worlds.items c.self.invariant.held.held c.args.group c.in-Ok.seat.0 at.0 runs c.index_mut.result.now c.in-Some.world c.index_mut.ensures.value c.in-Some.is in
    let seat = seat_on_ring c.args.group c.self.inside.book c.args.node c.in-Ok.seat.1 at.1 in
    let found = of_found c.args.group worlds c.in-Some.world read.1 in
    let carry = c.carry.ensures in
    let names_stay = (carry c.args.group worlds c.self.invariant.held read.1 seat).2 in
    let view = view_written c.self.inside.book c.carry.new.book names_stay c.self.inside.worlds.items c.args.group c.in-Ok.seat.0 at.0 c.in-Some.world c.carry.new.world read.0 in
    elim c.match-carry.branch [
      | in-Moved w ↦
          rw (w.result-is, ← c.self.view_is, view)
          (carries_at g.E.RingElection.table c.self.inside.book worlds c.self.invariant.held.held g.E.RingElection.is_two_way g.E.RingElection.is_greatest c.args.group c.args.node c.in-Ok.seat.1 at.1 c.args.side
          _ _ (found _ ((rw w.in-Moved.is at carry) c.args.group worlds c.self.invariant.held read.1 seat).0))
      | in-Idle w ↦
          rw (w.result-is, ← c.self.view_is, view)
          (carries_at g.E.RingElection.table c.self.inside.book worlds c.self.invariant.held.held g.E.RingElection.is_two_way g.E.RingElection.is_greatest c.args.group c.args.node c.in-Ok.seat.1 at.1 c.args.side
          _ _ (found _ ((rw w.in-Idle.is at carry) c.args.group worlds c.self.invariant.held read.1 seat).0))
      | in-Refused w ↦
          rw (w.result-is, ← c.self.view_is, view)
          (refused_carries g.E.RingElection.table c.self.inside.book worlds c.self.invariant.held.held g.E.RingElection.is_two_way g.E.RingElection.is_greatest c.args.group c.args.node c.in-Ok.seat.1 at.1 c.args.side
          _ w.in-Refused.refusal (found _ ((rw w.in-Refused.is at carry) c.args.group worlds c.self.invariant.held read.1 seat).0))
    ]

pub returns-in-Err-clause-object : goal.returns-in-Err-clause-object
returns-in-Err-clause-object g c = (refl, refused_as_who g.E.RingElection.is_two_way c.args.node c.args.side c.in-Err.refusal true c.args.group c.args.self.now.object c.in-Err.ensures)

pub returns-in-Err-clause-worlds : goal.returns-in-Err-clause-worlds
returns-in-Err-clause-worlds g c = (refl, λ memory. absurd (seat_grows_nothing c.args.group c.args.self.now.object c.args.node c.in-Err.refusal c.in-Err.ensures memory))

pub invariant_of-self : goal.invariant_of-self
invariant_of-self g c =
    let at = rw (← c.self.view_is) at c.in-Ok.ensures.1 in
    let runs = seat_runs c.args.group c.self.inside.book at.1 in
    absurd (slot_filled g.E.RingElection.table c.self.inside.book c.self.inside.worlds.items c.self.invariant.held.held c.args.group c.in-Ok.seat.0 at.0 runs c.index_mut.result.now c.index_mut.ensures.value c.in_default.is)
