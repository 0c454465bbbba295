use Rattle.std.proofs.Common.{◌∙◌, arith, rules}
use Rattle.std.proofs.lemmas.Grind.{common_steps}
use Rattle.std.proofs.lemmas.Option.{slice_get-get_or}
use Rattle.ring_chang.proofs.Reading.{one_read}
use Rattle.ring_chang.proofs.fits.fitting.Goals as goal
use Rattle.ring_chang.proofs.fits.fitting.Goals.{in-Some+else-exceeds, in-Some+then-exceeds+in_ok-map_err, in_default}

-- the next position to the left; its identity is kept if it exceeds all those kept
pub loop-preserved : goal.loop-preserved
loop-preserved c =
    rw c.neighbour-at.ensures.value
    (elim c.match-at.branch [
      | in-Some+then-exceeds+in_ok-map_err w ↦ one_read _ _ _ _ _ _ w.in-Some.node c.loop.invariant (search rules) (search rules) (grind (arith, common_steps))
      | in-Some+else-exceeds w ↦ one_read _ _ _ _ _ _ w.in-Some.node c.loop.invariant (search rules) (search rules) (grind (arith, common_steps))
      | in_default w ↦ absurd (w.in_default.not-Some _ (c.at.ensures.value ∙ slice_get-get_or _ _ 0 c.loop.invariant.inside))
    ])
