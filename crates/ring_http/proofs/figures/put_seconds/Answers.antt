-- The seconds, a point, and six digits.
use Rattle.std.proofs.Common.{◌++◌, ◌/◌, codes, decimal}
use Rattle.std.proofs.lemmas.Result.{on_ok_weaker}
use Rattle.ring_http.proofs.Listing.{more}
use Rattle.ring_http.proofs.figures.put_seconds.Goals as goal

pub returns : goal.returns
returns c =
    on_ok_weaker c.put.result
    (λ put. more c.args.out.now.items _ _ (decimal (c.args.micros / 1000000) ++ codes ".") _ c.in_ok-put_around.ensures put)
    (rw c.six_digits.ensures at c.put.ensures)
