use Rattle.std.proofs.Common.{rules}
use Rattle.ring_http.proofs.saying.lack_picture.Goals as goal

pub returns : goal.returns
returns c = search rules
