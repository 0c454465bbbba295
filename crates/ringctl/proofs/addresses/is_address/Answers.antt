-- A text that does not begin with `unix:` is cut at its last colon.
use Rattle.std.proofs.Common.{rules}
use Rattle.ringctl.proofs.Cuts.{cut, uncut}
use Rattle.ringctl.proofs.addresses.is_address.Goals as goal

pub returns-in_default-rsplit_once : goal.returns-in_default-rsplit_once
returns-in_default-rsplit_once c = uncut _ c.in_default.ensures c.in_default-rsplit_once.ensures.cases

pub returns-then-not-is_empty : goal.returns-then-not-is_empty
returns-then-not-is_empty c =
    cut _ c.in_default.ensures c.in-Some-rsplit_once.host.now c.in-Some-rsplit_once.port.now _
    c.in-Some-rsplit_once.ensures.cases (search rules)

pub returns-else-not-is_empty : goal.returns-else-not-is_empty
returns-else-not-is_empty c =
    cut _ c.in_default.ensures c.in-Some-rsplit_once.host.now c.in-Some-rsplit_once.port.now _
    c.in-Some-rsplit_once.ensures.cases (search rules)
