-- Every packet is of one sort.
use Rattle.std.proofs.Common.{◌+◌, ℕ, ap₂, ◌∙◌}
use Rattle.ring_node.specs.Nodes.{taken_of}
use Rattle.ring_node.proofs.Receipts.{counts-length}
use Rattle.ring_node.proofs.node.Node.taken.Goals as goal

pub returns : goal.returns
returns g c =
    ap₂ (λ (a b : ℕ). a + b) c.port-port.ensures.port.algos_is c.port-port.ensures.port.leaders_is ∙ counts-length (taken_of c.args.self.now c.args.side)
