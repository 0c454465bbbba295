-- A delivery in a group's world, and what it files, keep what a mux keeps.
use Rattle.std.proofs.Common.{◌∙◌, refl}
use Rattle.ring_mux.proofs.Outcomes.{held_stays, view_stays}
use Rattle.ring_mux.proofs.Keeping.{sound_written}
use Rattle.ring_mux.proofs.Passages.{silent_carried, told_carried, told_files}
use Rattle.ring_mux.proofs.deliveries.carry.Goals as goal

pub returns-in-Idle : goal.returns-in-Idle
returns-in-Idle g c = λ name worlds kept found seat.
    let passes = c.in-Idle.ensures.passes in (
      (passes.0, passes.1, view_stays _ _ _ kept.held name _ found c.args.position seat c.args.side _ _ refl (passes.2)),
      record {
        held = held_stays _ _ _ kept.held name _ found c.args.position seat c.args.side _ _ refl (passes.2);
        sound = sound_written _ _ _ name worlds _ _ kept.sound found c.pass.ensures.sound;
      },
      refl,
    )

pub returns-in-Refused : goal.returns-in-Refused
returns-in-Refused g c = λ name worlds kept found seat.
    let passes = c.in-Refused.ensures.passes in (
      (passes.0, view_stays _ _ _ kept.held name _ found c.args.position seat c.args.side _ _ refl (passes.1)),
      record {
        held = held_stays _ _ _ kept.held name _ found c.args.position seat c.args.side _ _ refl (passes.1);
        sound = sound_written _ _ _ name worlds _ _ kept.sound found c.pass.ensures.sound;
      },
      refl,
    )

pub returns-in_default : goal.returns-in_default
returns-in_default g c = λ name worlds kept found seat.
    let passes = c.in-Moved.ensures.passes in
    let carried = silent_carried g.E.RingElection.table g.E.RingElection.fits g.E.RingElection.winner c.args.position c.args.side c.args.book.now c.args.world.now _ _ passes.2 c.pass.ensures.sound g.E.RingElection.is_greatest c.in_default.is name worlds kept found seat in
    ((passes.0, carried.0), carried.1, carried.2)

pub inform-requires : goal.inform-requires
inform-requires g c =
    let files = told_files g.E.RingElection.table g.E.RingElection.fits g.E.RingElection.winner c.args.position c.args.side c.args.book.now c.args.world.now _ _ (c.in-Moved.ensures.passes.2) c.pass.ensures.sound c.args.place c.requires.stands c.requires.inside c.in-Some.leader c.in-Some.is _ (c.deref.ensures ∙ c.charter.ensures.value) in
    record { placed = files.placed; running = files.running; inside = files.inside; wins = files.wins }

pub returns : goal.returns
returns g c = λ name worlds kept found seat.
    let passes = c.in-Moved.ensures.passes in
    let carried = told_carried g.E.RingElection.table g.E.RingElection.fits g.E.RingElection.winner c.args.position c.args.side c.args.book.now c.args.world.now _ _ passes.2 c.pass.ensures.sound g.E.RingElection.is_greatest c.in-Some.leader c.in-Some.is _ (c.deref.ensures ∙ c.charter.ensures.value) c.inform.result c.inform.new.self c.inform.ensures name worlds kept found seat in
    ((passes.0, carried.0), carried.1, carried.2)
