use Rattle.std.proofs.Common.{rules}
use Rattle.ring_http.proofs.figures.six_digits.Goals as goal

pub returns : goal.returns
returns c = search rules
