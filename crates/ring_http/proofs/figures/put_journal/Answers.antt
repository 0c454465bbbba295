-- One metric after another.
use Rattle.std.proofs.lemmas.Result.{on_ok_weaker}
use Rattle.ring_http.specs.Figures.{bytes_text, syncs_text}
use Rattle.ring_http.proofs.Listing.{more}
use Rattle.ring_http.proofs.figures.put_journal.Goals as goal

pub returns : goal.returns
returns c =
    let journal = c.in-Some.journal in
    rw c.in-Some.is
    (on_ok_weaker c.put_sync_time.result
    (λ put.
    more c.args.out.now.items _ _ (bytes_text journal.bytes) _ c.in_ok-put_single.ensures
    (more c.put_single.new.out.items _ _ (syncs_text journal.syncs) _ c.in_ok-put_single-2.ensures put))
    c.put_sync_time.ensures)
