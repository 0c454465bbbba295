-- The heading, and then the sample.
use Rattle.std.proofs.Common.{codes}
use Rattle.std.proofs.lemmas.Result.{on_ok_weaker}
use Rattle.ring_http.specs.Figures.{seconds, sync_time_heading}
use Rattle.ring_http.proofs.Listing.{more}
use Rattle.ring_http.proofs.figures.put_sync_time.Goals as goal

pub returns : goal.returns
returns c =
    on_ok_weaker c.put-3.result
    (λ put.
    more c.args.out.now.items _ _ sync_time_heading _ c.in_ok-put_heading.ensures
    (more c.put_heading.new.out.items _ _ (codes "ringd_journal_sync_seconds_total") _ c.in_ok-put.ensures
    (more c.put.new.out.items _ _ (codes " ") _ c.in_ok-put-2.ensures
    (more c.put-2.new.out.items _ _ (seconds c.args.micros) _ c.in_ok-put_seconds.ensures put))))
    c.put-3.ensures
