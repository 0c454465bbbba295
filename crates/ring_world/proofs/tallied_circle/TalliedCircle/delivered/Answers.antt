-- A node's receipts came from one side or the other.
use Rattle.std.proofs.Common.{◌≡◌, take, ap, ◌∙◌, arith}
use Rattle.std.proofs.lemmas.List.{take_all}
use Rattle.ring_world.specs.Worlds.{node_at, receipts_in}
use Rattle.ring_world.proofs.Links.{length-both_sides, receipts_in-take}
use Rattle.ring_world.proofs.tallied_circle.TalliedCircle.delivered.Goals as goal

pub loop-position-preserved : goal.loop-position-preserved
loop-position-preserved g c =
    let size = rw c.self.view_is at c.size-position-end.ensures in
    let node = rw c.self.view_is at c.node-node.ensures.node in
    let left = rw node at c.taken.ensures in
    let right = rw node at c.taken-in-loop-position.ensures in
    let more = receipts_in-take c.args.self.now.journals c.loop-position.position (omega (arith, size.sound.count, size.value)) in
    record {
      counted = omega (arith, left, right, more, length-both_sides ((node_at c.args.self.now c.loop-position.position).journal));
      few = omega (arith, c.taken.type_inv, c.taken-in-loop-position.type_inv);
    }

pub returns : goal.returns
returns g c =
    let size = rw c.self.view_is at c.size-position-end.ensures in
    let journals = c.args.self.now.journals in
    let all : take c.loop-position.position journals ≡ journals = take_all c.loop-position.position journals (omega (arith, size.sound.count, size.value)) in
    c.loop-position.invariant.counted ∙ ap receipts_in all
