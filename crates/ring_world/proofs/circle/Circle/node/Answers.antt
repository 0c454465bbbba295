-- The nodes stand in the order of their positions.
use Rattle.std.proofs.Common.{◌*◌, ◌<◌, length, ◌∙◌, arith}
use Rattle.ring_world.specs.private.LinkSets.{bits_from}
use Rattle.ring_world.proofs.Links.{length-journals_of, node_of_world}
use Rattle.ring_world.proofs.circle.Circle.node.Goals as goal

pub index-requires : goal.index-requires
index-requires g c =
    let nodes = c.self.inside.nodes in
    let within = rw (← c.self.view_is) at c.requires in
    omega (arith, within, c.self.invariant.sound.count, length-journals_of nodes.items, nodes.ok.0)

pub returns-clause-node : goal.returns-clause-node
returns-clause-node g c =
    let nodes = c.self.inside.nodes in
    let within = rw (← c.self.view_is) at c.requires in
    let inside : c.args.position < length nodes.items = omega (arith, within, c.self.invariant.sound.count, length-journals_of nodes.items) in
    rw (← c.self.view_is)
    (c.index.ensures ∙ node_of_world c.self.inside.charter.value nodes.items (bits_from c.self.inside.cut.words 0 (2 * length c.self.inside.charter.value.roster)) c.self.invariant.nodes_are c.args.position c.index.result.now inside)
