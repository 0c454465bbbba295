use Rattle.std.proofs.Common.{rules}
use Rattle.ring_http.proofs.saying.end.Goals as goal

pub returns-in-Err-clause-err : goal.returns-in-Err-clause-err
returns-in-Err-clause-err c = search rules
