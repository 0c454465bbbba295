-- The drain's numbers are those of its deliveries and of its world; where nothing is left the term is known.
use Rattle.std.proofs.Common.{rules, refl, ap, ◌∙◌}
use Rattle.ring_world.specs.Worlds.{pending_of}
use Rattle.ring_terms.specs.Object.{names}
use Rattle.ring_mux.specs.Views.{placed}
use Rattle.ring_mux.proofs.Carrying.{same_found, written_found}
use Rattle.ring_mux.proofs.Drains.{some_pending}
use Rattle.ring_mux.proofs.Keeping.{none_known}
use Rattle.ring_mux.proofs.Leavings.{leaves_quiet}
use Rattle.ring_mux.proofs.Places.{kept_written, names_kept, place_at, place_inside, slot_filled, view_written, world_read}
use Rattle.ring_mux.proofs.mux.Mux.drain.Goals as goal

pub index_mut-requires : goal.index_mut-requires
index_mut-requires g c =
    let at = rw (← c.self.view_is) at c.in-Ok.ensures.1 in
    let inside = place_inside g.E.RingElection.table c.self.inside.book c.self.inside.worlds.items c.self.invariant.held.held c.args.group c.in-Ok.place at.0 at.1 in
    search (rules, inside)

pub returns-in_default-clause-object : goal.returns-in_default-clause-object
returns-in_default-clause-object g c =
    let at = rw (← c.self.view_is) at c.in-Ok.ensures.1 in
    absurd (slot_filled g.E.RingElection.table c.self.inside.book c.self.inside.worlds.items c.self.invariant.held.held c.args.group c.in-Ok.place at.0 at.1 c.index_mut.result.now c.index_mut.ensures.value c.in_default.is)

pub carry_many-done-requires : goal.carry_many-done-requires
carry_many-done-requires g c =
    let at = rw (← c.self.view_is) at c.in-Ok.ensures.1 in
    let worlds = placed (names c.self.inside.book) c.self.inside.worlds.items in
    let read = world_read g.E.RingElection.table c.self.inside.book c.self.inside.worlds.items c.self.invariant.held.held c.args.group c.in-Ok.place at.0 at.1 c.index_mut.result.now c.in-Some.world c.index_mut.ensures.value c.in-Some.is in
    record {
      name = c.args.group;
      worlds = worlds;
      kept = c.self.invariant.held;
      found = read.1;
      runs = at.1;
      placed = place_at c.args.group c.in-Ok.place (names c.self.inside.book) at.0;
    }

pub invariant_of-self-2 : goal.invariant_of-self-2
invariant_of-self-2 g c =
    let at = rw (← c.self.view_is) at c.in-Ok.ensures.1 in
    let worlds = placed (names c.self.inside.book) c.self.inside.worlds.items in
    let read = world_read g.E.RingElection.table c.self.inside.book c.self.inside.worlds.items c.self.invariant.held.held c.args.group c.in-Ok.place at.0 at.1 c.index_mut.result.now c.in-Some.world c.index_mut.ensures.value c.in-Some.is in
    let made = c.carry_many-done.ensures c.args.group worlds c.self.invariant.held read.1 at.1 in
    kept_written c.self.inside.book c.carry_many-done.new.book (names_kept c.args.group _ c.self.inside.book c.carry_many-done.new.book made.0.object) c.self.inside.worlds.items c.args.group c.in-Ok.place at.0 c.in-Some.world
    c.carry_many-done.new.world read.0 g.E.RingElection.table g.E.RingElection.fits g.E.RingElection.winner c.self.invariant.few made.1

pub returns-clause-object : goal.returns-clause-object
returns-clause-object g c =
    let at = rw (← c.self.view_is) at c.in-Ok.ensures.1 in
    let worlds = placed (names c.self.inside.book) c.self.inside.worlds.items in
    let read = world_read g.E.RingElection.table c.self.inside.book c.self.inside.worlds.items c.self.invariant.held.held c.args.group c.in-Ok.place at.0 at.1 c.index_mut.result.now c.in-Some.world c.index_mut.ensures.value c.in-Some.is in
    let made = c.carry_many-done.ensures c.args.group worlds c.self.invariant.held read.1 at.1 in
    let found = written_found c.args.group worlds c.in-Some.world c.carry_many-done.new.world read.1 in (
      c.in-Ok.ensures.0,
      rw (← c.self.view_is) (record {
        done = c.carry_many-done.result.0;
        left = c.new.result;
        starved = c.carry_many-done.result.1;
        reply_is = refl;
        within = made.0.within;
        moves = made.0.object;
        stopped = λ h. let stopped = made.0.stopped h in (stopped.0, rw (c.new.ensures, c.pending.ensures.value) (some_pending g.E.RingElection.table c.carry_many-done.new.world (stopped.1 c.carry_many-done.new.world found)));
        known = none_known g.E.RingElection.table g.E.RingElection.fits g.E.RingElection.winner g.met.E.RingElection.deciding (λ a. (g.met.E.RingElection.lawful a).start_undecided) _ _ made.1 c.args.group c.new.result made.0.runs
            (λ w at. c.new.ensures ∙ c.pending.ensures.value ∙ ap (pending_of g.E.RingElection.table) (same_found _ _ _ found at));
      }),
    )

pub returns-clause-worlds : goal.returns-clause-worlds
returns-clause-worlds g c =
    let at = rw (← c.self.view_is) at c.in-Ok.ensures.1 in
    let worlds = placed (names c.self.inside.book) c.self.inside.worlds.items in
    let read = world_read g.E.RingElection.table c.self.inside.book c.self.inside.worlds.items c.self.invariant.held.held c.args.group c.in-Ok.place at.0 at.1 c.index_mut.result.now c.in-Some.world c.index_mut.ensures.value c.in-Some.is in
    let made = c.carry_many-done.ensures c.args.group worlds c.self.invariant.held read.1 at.1 in
    let found = written_found c.args.group worlds c.in-Some.world c.carry_many-done.new.world read.1 in
    let view = view_written c.self.inside.book c.carry_many-done.new.book (names_kept c.args.group _ c.self.inside.book c.carry_many-done.new.book made.0.object) c.self.inside.worlds.items c.args.group c.in-Ok.place at.0 c.in-Some.world
    c.carry_many-done.new.world read.0 in
    rw (← c.self.view_is, view) (made.0, record { world = c.carry_many-done.new.world; found = found; counted = c.new.ensures ∙ c.pending.ensures.value })

pub returns-clause-bounded : goal.returns-clause-bounded
returns-clause-bounded g c =
    let at = rw (← c.self.view_is) at c.in-Ok.ensures.1 in
    let worlds = placed (names c.self.inside.book) c.self.inside.worlds.items in
    let read = world_read g.E.RingElection.table c.self.inside.book c.self.inside.worlds.items c.self.invariant.held.held c.args.group c.in-Ok.place at.0 at.1 c.index_mut.result.now c.in-Some.world c.index_mut.ensures.value c.in-Some.is in
    let made = c.carry_many-done.ensures c.args.group worlds c.self.invariant.held read.1 at.1 in
    let view = view_written c.self.inside.book c.carry_many-done.new.book (names_kept c.args.group _ c.self.inside.book c.carry_many-done.new.book made.0.object) c.self.inside.worlds.items c.args.group c.in-Ok.place at.0 c.in-Some.world
    c.carry_many-done.new.world read.0 in
    rw (← c.self.view_is, view)
    (leaves_quiet g.E.RingElection.table c.args.group g.E.RingElection.fits g.E.RingElection.winner g.E.RingElection.bound g.met.E.RingElection.bounded g.E.RingElection.is_greatest c.args.count
    c.carry_many-done.result.0 c.new.result c.carry_many-done.result.1 _ _ c.self.invariant.held.sound made.1.sound made.0)

pub returns-clause-informed : goal.returns-clause-informed
returns-clause-informed g c = (invariant_of-self-2 g c).held.held

pub returns-in-Err-clause-informed : goal.returns-in-Err-clause-informed
returns-in-Err-clause-informed g c = rw (← c.self.view_is) c.self.invariant.held.held

pub returns-in_default-clause-informed : goal.returns-in_default-clause-informed
returns-in_default-clause-informed g c =
    let at = rw (← c.self.view_is) at c.in-Ok.ensures.1 in
    absurd (slot_filled g.E.RingElection.table c.self.inside.book c.self.inside.worlds.items c.self.invariant.held.held c.args.group c.in-Ok.place at.0 at.1 c.index_mut.result.now c.index_mut.ensures.value c.in_default.is)

pub returns-in-Err-clause-object : goal.returns-in-Err-clause-object
returns-in-Err-clause-object g c = (refl, c.in-Err.ensures)

pub returns-in-Err-clause-worlds : goal.returns-in-Err-clause-worlds
returns-in-Err-clause-worlds g c = refl

pub returns-in-Err-clause-bounded : goal.returns-in-Err-clause-bounded
returns-in-Err-clause-bounded g c = record { each = λ world found enough done left is after here. cc }

pub returns-in_default-clause-worlds : goal.returns-in_default-clause-worlds
returns-in_default-clause-worlds g c =
    let at = rw (← c.self.view_is) at c.in-Ok.ensures.1 in
    absurd (slot_filled g.E.RingElection.table c.self.inside.book c.self.inside.worlds.items c.self.invariant.held.held c.args.group c.in-Ok.place at.0 at.1 c.index_mut.result.now c.index_mut.ensures.value c.in_default.is)

pub returns-in_default-clause-bounded : goal.returns-in_default-clause-bounded
returns-in_default-clause-bounded g c =
    let at = rw (← c.self.view_is) at c.in-Ok.ensures.1 in
    absurd (slot_filled g.E.RingElection.table c.self.inside.book c.self.inside.worlds.items c.self.invariant.held.held c.args.group c.in-Ok.place at.0 at.1 c.index_mut.result.now c.index_mut.ensures.value c.in_default.is)

pub invariant_of-self : goal.invariant_of-self
invariant_of-self g c =
    let at = rw (← c.self.view_is) at c.in-Ok.ensures.1 in
    absurd (slot_filled g.E.RingElection.table c.self.inside.book c.self.inside.worlds.items c.self.invariant.held.held c.args.group c.in-Ok.place at.0 at.1 c.index_mut.result.now c.index_mut.ensures.value c.in_default.is)
