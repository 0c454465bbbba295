-- The running term has its world; where nothing is in flight there it is known.
use Rattle.std.proofs.Common.{rules, ap, ◌∙◌}
use Rattle.ring_world.specs.Worlds.{pending_of}
use Rattle.ring_mux.specs.Views.{placed}
use Rattle.ring_terms.specs.Object.{names}
use Rattle.ring_mux.proofs.Carrying.{same_found}
use Rattle.ring_mux.proofs.Keeping.{none_known}
use Rattle.ring_mux.proofs.Places.{place_inside, slot_filled, world_read}
use Rattle.ring_mux.proofs.mux.Mux.pending.Goals as goal

pub index-requires : goal.index-requires
index-requires g c =
    let at = rw (← c.self.view_is) at c.in_ok-place.ensures.1 in
    let inside = place_inside g.E.RingElection.table c.self.inside.book c.self.inside.worlds.items c.self.invariant.held.held c.args.group c.in_ok-place.place at.0 at.1 in
    search (rules, inside)

pub returns-in_default-clause-number : goal.returns-in_default-clause-number
returns-in_default-clause-number g c =
    let at = rw (← c.self.view_is) at c.in_ok-place.ensures.1 in
    absurd (slot_filled g.E.RingElection.table c.self.inside.book c.self.inside.worlds.items c.self.invariant.held.held c.args.group c.in_ok-place.place at.0 at.1 c.index.result.now c.index.ensures c.in_default.is)

pub returns-clause-number : goal.returns-clause-number
returns-clause-number g c =
    let at = rw (← c.self.view_is) at c.in_ok-place.ensures.1 in
    let read = world_read g.E.RingElection.table c.self.inside.book c.self.inside.worlds.items c.self.invariant.held.held c.args.group c.in_ok-place.place at.0 at.1 c.index.result.now c.in-Some.world c.index.ensures c.in-Some.is in
    (c.in_ok-place.ensures.0, rw (← c.self.view_is) (record { world = c.in-Some.world; found = read.1; counted = c.pending.ensures.value }))

pub returns-clause-known : goal.returns-clause-known
returns-clause-known g c =
    let at = rw (← c.self.view_is) at c.in_ok-place.ensures.1 in
    let read = world_read g.E.RingElection.table c.self.inside.book c.self.inside.worlds.items c.self.invariant.held.held c.args.group c.in_ok-place.place at.0 at.1 c.index.result.now c.in-Some.world c.index.ensures c.in-Some.is in
    rw (← c.self.view_is)
    (none_known g.E.RingElection.table g.E.RingElection.fits g.E.RingElection.winner g.met.E.RingElection.deciding (λ a. (g.met.E.RingElection.lawful a).start_undecided) c.self.inside.book
    (placed (names c.self.inside.book) c.self.inside.worlds.items) c.self.invariant.held c.args.group c.pending.result at.1
    (λ w found. c.pending.ensures.value ∙ ap (pending_of g.E.RingElection.table) (same_found _ _ _ read.1 found)))
