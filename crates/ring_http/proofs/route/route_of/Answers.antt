use Rattle.std.proofs.Common.{rules}
use Rattle.ring_http.proofs.route.route_of.Goals as goal

pub returns-in-Some : goal.returns-in-Some
returns-in-Some c = search rules
