use Rattle.std.proofs.Common.{rules}
use Rattle.ring_http.proofs.route.is_same_name.Goals as goal

pub returns : goal.returns
returns c = search rules
