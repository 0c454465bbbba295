-- The heading, and then the samples.
use Rattle.std.proofs.lemmas.Result.{on_ok_weaker}
use Rattle.ring_http.specs.Figures.{refusals_heading}
use Rattle.ring_http.proofs.Listing.{more}
use Rattle.ring_http.proofs.figures.put_refusals.Goals as goal

pub returns : goal.returns
returns c =
    on_ok_weaker c.put_counts.result
    (λ put. more c.args.out.now.items _ _ refusals_heading _ c.in_ok-put_heading.ensures put)
    (rw c.all_refusals.ensures at c.put_counts.ensures)
