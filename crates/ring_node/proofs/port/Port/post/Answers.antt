-- The message comes after the announcement, if there is one.
use Rattle.std.proofs.Common.{sym, ap, ◌∙◌}
use Rattle.ring_node.specs.private.Journals.{leader_place}
use Rattle.ring_node.proofs.Announcing.{leader_place-message}
use Rattle.ring_node.proofs.port.Port.post.Goals as goal

pub invariant_of-self : goal.invariant_of-self
invariant_of-self g c = record {
  announced_is = c.args.self.now.announced_is ∙ sym (ap leader_place c.push_reserved.ensures.items ∙ leader_place-message c.args.self.now.sent.items c.in-Some.message);
}
