use Rattle.std.proofs.Common.{rules}
use Rattle.ring_http.proofs.gauges.leader_of.Goals as goal

pub returns-in-Some-last : goal.returns-in-Some-last
returns-in-Some-last c = search rules
