use Rattle.std.proofs.Common.{◌∙◌}
use Rattle.ring_id.proofs.Padding.{padded_compared}
use Rattle.ring_id.proofs.group_name.GroupNamePartialEq.eq.Goals as goal

pub returns : goal.returns
returns c =
    rw (← c.self.view_is, ← c.other.view_is)
    (c.eq.ensures ∙ padded_compared c.self.inside.bytes c.other.inside.bytes _ _ c.self.invariant.2 c.other.invariant.2 c.self.invariant.0 c.other.invariant.0)
