use Rattle.std.proofs.Common.{rules}
use Rattle.ring_http.proofs.saying.fail.Goals as goal

pub returns : goal.returns
returns c = search rules
