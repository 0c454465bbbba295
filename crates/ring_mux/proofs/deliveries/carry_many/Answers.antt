-- Each row of passages is as many deliveries more, and a leader that the last told is filed.
use Rattle.std.proofs.Common.{◌≡◌, ◌+◌, ◌∙◌, suc, Some, refl, arith}
use Rattle.ring_mux.proofs.Drains.{makes_all, makes_ended, makes_starved}
use Rattle.ring_mux.proofs.Passages.{none_at, one_at, silent_at, told_carried, told_files}
use Rattle.ring_mux.proofs.deliveries.carry_many.Goals as goal

pub loop-done-init : goal.loop-done-init
loop-done-init g c = record { within = omega arith; made = none_at g.E.RingElection.table g.E.RingElection.fits g.E.RingElection.winner g.E.RingElection.is_greatest c.args.place c.args.book.now c.args.world.now c.requires }

pub inform-requires : goal.inform-requires
inform-requires g c =
    let ends = rw c.in-Told.is at c.pass_ready-passages.ensures.passes.ends in
    let before = silent_at g.E.RingElection.table g.E.RingElection.fits g.E.RingElection.winner g.E.RingElection.is_greatest c.args.place c.args.book.now c.args.world.now c.loop-done.done ends.0 c.loop-done.book c.loop-done.world ends.1 c.loop-done.invariant.made ends.3 in
    let files = told_files g.E.RingElection.table g.E.RingElection.fits g.E.RingElection.winner c.in-Told.position ends.4.side c.loop-done.book ends.1 (Some c.in-Told.leader) c.pass_ready-passages.new.self ends.4.passed ends.4.sound c.args.place before.stands ends.4.first.inside c.in-Told.leader refl _ (c.deref.ensures ∙ c.charter.ensures.value) in
    record { placed = files.placed; running = files.running; inside = files.inside; wins = files.wins }

pub loop-done-preserved : goal.loop-done-preserved
loop-done-preserved g c =
    let ends = rw c.in-Told.is at c.pass_ready-passages.ensures.passes.ends in
    let before = silent_at g.E.RingElection.table g.E.RingElection.fits g.E.RingElection.winner g.E.RingElection.is_greatest c.args.place c.args.book.now c.args.world.now c.loop-done.done ends.0 c.loop-done.book c.loop-done.world ends.1 c.loop-done.invariant.made ends.3 in
    let carried = told_carried g.E.RingElection.table g.E.RingElection.fits g.E.RingElection.winner c.in-Told.position ends.4.side c.loop-done.book ends.1 (Some c.in-Told.leader) c.pass_ready-passages.new.self ends.4.passed ends.4.sound g.E.RingElection.is_greatest c.in-Told.leader refl _ (c.deref.ensures ∙ c.charter.ensures.value) c.inform.result c.inform.new.self c.inform.ensures in
    let made = one_at g.E.RingElection.table g.E.RingElection.fits g.E.RingElection.winner g.E.RingElection.is_greatest c.args.place c.args.book.now c.args.world.now (c.loop-done.done + ends.0) c.in-Told.position ends.4.side c.loop-done.book ends.1 c.inform.new.self c.pass_ready-passages.new.self before ends.4.first carried in
    let whole : suc (c.loop-done.done + ends.0) ≡ c.loop-done.done + c.pass_ready-passages.result.done = omega (arith, ends.2) in
    record { within = omega (arith, c.pass_ready-passages.ensures.passes.within); made = rw whole at made }

pub loop-done-smaller : goal.loop-done-smaller
loop-done-smaller g c =
    let ends = rw c.in-Told.is at c.pass_ready-passages.ensures.passes.ends in
    omega (arith, ends.2, c.pass_ready-passages.ensures.passes.within)

pub returns-in-Made : goal.returns-in-Made
returns-in-Made g c =
    let ends = rw c.in-Made.is at c.pass_ready-passages.ensures.passes.ends in
    let sum : c.loop-done.done + c.pass_ready-passages.result.done ≡ c.args.count = omega (arith, ends.0) in
    let made = silent_at g.E.RingElection.table g.E.RingElection.fits g.E.RingElection.winner g.E.RingElection.is_greatest c.args.place c.args.book.now c.args.world.now c.loop-done.done c.pass_ready-passages.result.done c.loop-done.book c.loop-done.world c.pass_ready-passages.new.self c.loop-done.invariant.made ends.1 in
    rw sum (makes_all g.E.RingElection.table g.E.RingElection.fits g.E.RingElection.winner g.E.RingElection.is_greatest c.args.count c.args.book.now c.args.world.now c.loop-done.book c.pass_ready-passages.new.self (rw sum at made.drained))

pub returns-in-Quiet : goal.returns-in-Quiet
returns-in-Quiet g c =
    let ends = rw c.in-Quiet.is at c.pass_ready-passages.ensures.passes.ends in
    let made = silent_at g.E.RingElection.table g.E.RingElection.fits g.E.RingElection.winner g.E.RingElection.is_greatest c.args.place c.args.book.now c.args.world.now c.loop-done.done c.pass_ready-passages.result.done c.loop-done.book c.loop-done.world c.pass_ready-passages.new.self c.loop-done.invariant.made ends.0 in
    makes_ended g.E.RingElection.table g.E.RingElection.fits g.E.RingElection.winner g.E.RingElection.is_greatest c.args.count (c.loop-done.done + c.pass_ready-passages.result.done) c.args.book.now c.args.world.now c.loop-done.book c.pass_ready-passages.new.self (omega (arith, c.pass_ready-passages.ensures.passes.within)) made.drained ends.1

pub returns-in-Starved : goal.returns-in-Starved
returns-in-Starved g c =
    let ends = rw c.in-Starved.is at c.pass_ready-passages.ensures.passes.ends in
    let made = silent_at g.E.RingElection.table g.E.RingElection.fits g.E.RingElection.winner g.E.RingElection.is_greatest c.args.place c.args.book.now c.args.world.now c.loop-done.done c.pass_ready-passages.result.done c.loop-done.book c.loop-done.world c.pass_ready-passages.new.self c.loop-done.invariant.made ends.1 in
    makes_starved g.E.RingElection.table g.E.RingElection.fits g.E.RingElection.winner g.E.RingElection.is_greatest c.args.count (c.loop-done.done + c.pass_ready-passages.result.done) ends.2 ends.3 c.args.book.now c.args.world.now c.loop-done.book c.pass_ready-passages.new.self (omega (arith, ends.0)) made.drained ends.4

pub returns : goal.returns
returns g c =
    let all : c.loop-done.done ≡ c.args.count = omega arith in
    rw all (makes_all g.E.RingElection.table g.E.RingElection.fits g.E.RingElection.winner g.E.RingElection.is_greatest c.args.count c.args.book.now c.args.world.now c.loop-done.book c.loop-done.world (rw all at c.loop-done.invariant.made.drained))
