use Rattle.std.proofs.Common.{rules}
use Rattle.ring_http.proofs.saying.fault_code.Goals as goal

pub returns-in-NoGroup : goal.returns-in-NoGroup
returns-in-NoGroup c = search rules
