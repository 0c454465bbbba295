-- One metric after another.
use Rattle.std.proofs.Common.{length}
use Rattle.std.proofs.lemmas.Result.{on_ok_weaker}
use Rattle.ring_http.specs.Metrics.{entries_text, families_text, groups_text}
use Rattle.ring_http.proofs.Listing.{more}
use Rattle.ring_http.proofs.metrics.put_metrics.Goals as goal

pub returns : goal.returns
returns c =
    let groups = c.args.groups.now in
    on_ok_weaker c.put_figures.result
    (λ put.
    more c.args.out.now.items _ _ (groups_text (length groups)) _ c.in_ok-put_single.ensures
    (more c.put_single.new.out.items _ _ (entries_text c.args.place) _ c.in_ok-put_single-2.ensures
    (more c.put_single-2.new.out.items _ _ (families_text groups) _ c.in_ok-put_families.ensures put)))
    c.put_figures.ensures
