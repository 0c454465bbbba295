use Rattle.std.proofs.Common.{rules}
use Rattle.ring_http.proofs.saying.begin.Goals as goal

pub add_rest-requires : goal.add_rest-requires
add_rest-requires c = search rules
