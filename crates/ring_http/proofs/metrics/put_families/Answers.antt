-- One metric after another.
use Rattle.std.proofs.lemmas.Result.{on_ok_weaker}
use Rattle.ring_http.specs.Gauges.{family_text}
use Rattle.ring_http.specs.declared.gauges.Gauge.TheVariants.{Members, Term, Leader}
use Rattle.ring_http.proofs.Listing.{more}
use Rattle.ring_http.proofs.metrics.put_families.Goals as goal

pub returns : goal.returns
returns c =
    let groups = c.args.groups.now in
    on_ok_weaker c.put_family-4.result
    (λ put.
    more c.args.out.now.items _ _ (family_text Members groups) _ c.in_ok-put_family.ensures
    (more c.put_family.new.out.items _ _ (family_text Term groups) _ c.in_ok-put_family-2.ensures
    (more c.put_family-2.new.out.items _ _ (family_text Leader groups) _ c.in_ok-put_family-3.ensures put)))
    c.put_family-4.ensures
