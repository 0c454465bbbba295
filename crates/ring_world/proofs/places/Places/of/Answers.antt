-- One node more: it is of another charter, or of this one and the first or the second at its position.
use Rattle.std.proofs.Common.{◌≡◌, ◌<◌, Some, None, length, slice_get, slice_index_or, refl, sym, ◌∙◌, arith, length-set}
use Rattle.std.proofs.lemmas.Option.{slice_get_read, slice_get_within}
use Rattle.ring_node.specs.Nodes.{IsFaithful}
use Rattle.ring_world.proofs.Placing.{each_more, none_there, nothing_said, placed_more, placed_none, placed_past, shared_here}
use Rattle.ring_world.proofs.places.Places.of.Goals as goal
use Rattle.ring_world.proofs.places.Places.of.Goals.{then-same+else-is_some, else-same}

pub loop-place-init : goal.loop-place-init
loop-place-init g c = record {
  size = refl;
  placed = placed_none _ _ _ (nothing_said 256);
  faithful = λ k node below there. absurd (omega arith);
}

pub loop-place-preserved : goal.loop-place-preserved
loop-place-preserved g c =
    let charter = c.args.charter.now in
    let nodes = c.args.nodes.now in
    let n = c.loop-place.place in
    let node = c.index-nodes-place.result in
    let there : slice_get nodes n ≡ Some node = slice_get_read nodes _ n node refl c.loop-place-test.true c.index-nodes-place.is in
    let before = c.loop-place.invariant in
    let faithful = c.position-position.ensures.faithful in
    let inside : node.position < length c.loop-place.at = omega (arith, faithful.inside, faithful.is_ring.short, before.size) in
    let known = each_more (IsFaithful g.E.RingElection.table g.E.RingElection.fits g.E.RingElection.winner) nodes n node there faithful before.faithful in
    elim c.if-same.branch [
      | then-same+else-is_some w ↦
          let same = rw (c.deref.ensures, c.charter.ensures) at (w.if-same.ensures.0 refl) in
          let free : slice_index_or c.loop-place.at node.position None ≡ None = none_there _ (rw c.position-position.ensures.value at (sym w.if-is_some.ensures)) in
          record {
            size = rw w.at-is (length-set c.loop-place.at _ _ ∙ before.size);
            placed = rw (w.at-is, c.position-position.ensures.value) (placed_more charter nodes n c.loop-place.at before.placed node there same inside free);
            faithful = known;
          }
      | else-same w ↦
          let differ = rw (c.deref.ensures, c.charter.ensures) at w.if-same.ensures.1 in
          record {
            size = rw w.at-is before.size;
            placed = rw w.at-is (placed_past charter nodes n c.loop-place.at before.placed node there (λ same. let never = differ same in cc));
            faithful = known;
          }
    ]

pub returns-then-is_some-clause-places : goal.returns-then-is_some-clause-places
returns-then-is_some-clause-places g c =
    let charter = c.args.charter.now in
    let nodes = c.args.nodes.now in
    let n = c.loop-place.place in
    let node = c.index-nodes-place.result in
    let there : slice_get nodes n ≡ Some node = slice_get_read nodes _ n node refl c.loop-place-test.true c.index-nodes-place.is in
    let same = rw (c.deref.ensures, c.charter.ensures) at (c.if-same.ensures.0 refl) in
    let inside : node.position < length charter.roster = rw same at c.position-position.ensures.faithful.inside in
    shared_here charter nodes n c.loop-place.at c.loop-place.invariant.placed node there same inside (rw c.position-position.ensures.value at (sym c.if-is_some.ensures))

pub returns-clause-places : goal.returns-clause-places
returns-clause-places g c =
    let all : c.loop-place.place ≡ length c.args.nodes.now = omega (arith, c.loop-place-test.false, c.loop-place.auto.place-end) in
    rw (← all) c.loop-place.invariant.placed

pub returns-clause-faithful : goal.returns-clause-faithful
returns-clause-faithful g c = record {
  each = λ k node there. let within = slice_get_within c.args.nodes.now k node there in c.loop-place.invariant.faithful k node (omega (arith, c.loop-place-test.false)) there;
}
