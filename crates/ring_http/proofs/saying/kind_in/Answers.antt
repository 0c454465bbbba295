use Rattle.std.proofs.Common.{rules}
use Rattle.ring_http.proofs.saying.kind_in.Goals as goal

pub returns-in-Election-clause-value : goal.returns-in-Election-clause-value
returns-in-Election-clause-value c = search rules
