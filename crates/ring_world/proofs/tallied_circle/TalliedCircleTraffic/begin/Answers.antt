-- The links into one position more are marked and counted, and at the end those into all.
use Rattle.std.proofs.Common.{◌≡◌, arith, add-one, refl, ◌∙◌}
use Rattle.ring_id.specs.declared.side.Side.TheVariants.{Left, Right}
use Rattle.ring_world.specs.Worlds.{size_of}
use Rattle.ring_world.specs.private.Tallies.{IsMarked}
use Rattle.ring_world.proofs.Cuts.{no_cut, pending_stands}
use Rattle.ring_world.proofs.Links.{each_side_below}
use Rattle.ring_world.proofs.tallied_circle.TalliedCircleTraffic.begin.Goals as goal

pub loop-position-init : goal.loop-position-init
loop-position-init g c = record { marked = λ i side below. absurd (omega arith); beyond = λ place past. c.empty-ready.ensures place; counted = refl; few = omega arith }

pub mark-requires-clause-inside : goal.mark-requires-clause-inside
mark-requires-clause-inside g c = rw c.size-position-end.ensures.value at c.loop-position-test.true

pub mark-requires-in-loop-position-clause-inside : goal.mark-requires-in-loop-position-clause-inside
mark-requires-in-loop-position-clause-inside g c = rw c.size-position-end.ensures.value at c.loop-position-test.true

pub waiting-left-requires : goal.waiting-left-requires
waiting-left-requires g c = rw c.size-position-end.ensures.value at c.loop-position-test.true

pub waiting-right-requires : goal.waiting-right-requires
waiting-right-requires g c = rw c.size-position-end.ensures.value at c.loop-position-test.true

pub mark-requires-clause-uncut : goal.mark-requires-clause-uncut
mark-requires-clause-uncut g c = no_cut c.args.charter.value _ c.in-Ok.circle c.in-Ok.ensures c.loop-position.position Left (rw c.size-position-end.ensures.value at c.loop-position-test.true)

pub mark-requires-in-loop-position-clause-uncut : goal.mark-requires-in-loop-position-clause-uncut
mark-requires-in-loop-position-clause-uncut g c = no_cut c.args.charter.value _ c.in-Ok.circle c.in-Ok.ensures c.loop-position.position Right (rw c.size-position-end.ensures.value at c.loop-position-test.true)

pub overflow_cast-pending : goal.overflow_cast-pending
overflow_cast-pending g c = omega (arith, c.waiting-left.type_inv)

pub overflow_cast-pending-in-loop-position : goal.overflow_cast-pending-in-loop-position
overflow_cast-pending-in-loop-position g c = omega (arith, c.waiting-right.type_inv)

pub overflow_add-pending : goal.overflow_add-pending
overflow_add-pending g c = omega (arith, c.waiting-left.type_inv, c.waiting-right.type_inv)

pub overflow_add-pending-in-loop-position : goal.overflow_add-pending-in-loop-position
overflow_add-pending-in-loop-position g c = omega (arith, c.loop-position.invariant.few, c.loop-position-test.true, c.size-position-end.ensures.few, c.waiting-left.type_inv, c.waiting-right.type_inv)

pub loop-position-preserved : goal.loop-position-preserved
loop-position-preserved g c =
    let before = c.loop-position.invariant in
    let left = c.mark.ensures in
    let right = c.mark-in-loop-position.ensures in
    let left_stands = pending_stands g.E.RingElection.table c.in-Ok.circle c.loop-position.position Left in
    let right_stands = pending_stands g.E.RingElection.table c.in-Ok.circle c.loop-position.position Right in
    record {
      marked =
          each_side_below (λ i side. IsMarked g.E.RingElection.table c.in-Ok.circle c.mark-in-loop-position.new.ready.words i side) c.loop-position.position
          (λ i side below. right.kept i side (left.kept i side (before.marked i side below)))
          (right.kept c.loop-position.position Left left.marked)
          right.marked;
      beyond = λ place past. right.beyond place past ∙ left.beyond place past ∙ before.beyond place past;
      counted = rw add-one (omega (arith, left_stands, right_stands, before.counted, c.waiting-left.ensures.value, c.waiting-right.ensures.value));
      few = omega (arith, before.few, c.waiting-left.type_inv, c.waiting-right.type_inv);
    }

pub invariant_of-result : goal.invariant_of-result
invariant_of-result g c =
    let all : c.loop-position.position ≡ size_of c.in-Ok.circle = omega (arith, c.size-position-end.ensures.value) in
    record {
      sound = c.size-position-end.ensures.sound;
      counted = rw all at c.loop-position.invariant.counted;
      marked = record { each = rw all at c.loop-position.invariant.marked; beyond = c.loop-position.invariant.beyond };
    }

pub returns-clause-started : goal.returns-clause-started
returns-clause-started g c = c.in-Ok.ensures

pub returns-clause-sound : goal.returns-clause-sound
returns-clause-sound g c = c.size-position-end.ensures.sound
