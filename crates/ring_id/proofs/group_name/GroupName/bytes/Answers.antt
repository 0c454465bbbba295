-- The bytes up to the length are the name.
use Rattle.std.proofs.Common.{rules}
use Rattle.ring_id.proofs.group_name.GroupName.bytes.Goals as goal

pub returns-clause-value : goal.returns-clause-value
returns-clause-value c = search rules
