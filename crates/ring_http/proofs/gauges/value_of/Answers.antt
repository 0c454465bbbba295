use Rattle.std.proofs.Common.{rules}
use Rattle.ring_http.proofs.gauges.value_of.Goals as goal

pub returns-in-Informed : goal.returns-in-Informed
returns-in-Informed c = search rules
