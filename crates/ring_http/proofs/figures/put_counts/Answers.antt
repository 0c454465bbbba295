-- One refusal after another.
use Rattle.ring_id.specs.declared.refusal.Refusal.TheVariants.{BadLine}
use Rattle.ring_http.specs.Figures.{refusal_sample}
use Rattle.ring_http.proofs.Listing.{put_next}
use Rattle.ring_http.proofs.figures.put_counts.Goals as goal

pub loop-refusal-preserved : goal.loop-refusal-preserved
loop-refusal-preserved c = put_next (refusal_sample c.args.counts.now) c.args.refusals.now c.loop-refusal.refusal-index BadLine _ _ _ c.loop-refusal-test.true c.loop-refusal.invariant c.in_ok-put_refusal_count.ensures
