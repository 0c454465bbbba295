use Rattle.std.proofs.Common.{rules}
use Rattle.ring_http.proofs.route.reads.Goals as goal

pub returns-else-eq : goal.returns-else-eq
returns-else-eq c = search rules
