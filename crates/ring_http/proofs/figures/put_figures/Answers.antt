-- One metric after another.
use Rattle.std.proofs.lemmas.Result.{on_ok_weaker}
use Rattle.ring_http.specs.Figures.{accepts_text, clients_text, limits_text, refusals_text, resident_text}
use Rattle.ring_http.proofs.Listing.{more}
use Rattle.ring_http.proofs.figures.put_figures.Goals as goal

pub returns : goal.returns
returns c =
    let figures = c.args.figures.now in
    on_ok_weaker c.put_journal.result
    (λ put.
    more c.args.out.now.items _ _ (clients_text figures) _ c.in_ok-put_clients.ensures
    (more c.put_clients.new.out.items _ _ (limits_text figures) _ c.in_ok-put_limits.ensures
    (more c.put_limits.new.out.items _ _ (accepts_text figures.failed_accepts) _ c.in_ok-put_single.ensures
    (more c.put_single.new.out.items _ _ (refusals_text figures.refusals) _ c.in_ok-put_refusals.ensures
    (more c.put_refusals.new.out.items _ _ (resident_text figures.resident) _ c.in_ok-put_given_single.ensures put)))))
    c.put_journal.ensures
