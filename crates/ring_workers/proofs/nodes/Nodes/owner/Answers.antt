-- What the type keeps of the nodes.
use Rattle.std.proofs.Common.{subst}
use Rattle.ring_workers.specs.Holdings.{AllOwned, NoTwoAlike, nodes_of}
use Rattle.ring_workers.proofs.Holdings.{all_owned, no_two_alike}
use Rattle.ring_workers.proofs.nodes.Nodes.owner.Goals as goal

pub returns-clause-owned : goal.returns-clause-owned
returns-clause-owned g c =
    subst (λ h. AllOwned h.number h.workers (nodes_of h)) c.self.view_is
    (all_owned c.self.inside.owner.number c.self.inside.owner.workers c.self.inside.groups.entries c.self.invariant)

pub returns-clause-apart : goal.returns-clause-apart
returns-clause-apart g c =
    subst (λ h. NoTwoAlike (nodes_of h)) c.self.view_is
    (no_two_alike c.self.inside.owner.number c.self.inside.owner.workers c.self.inside.groups.entries c.self.invariant)
