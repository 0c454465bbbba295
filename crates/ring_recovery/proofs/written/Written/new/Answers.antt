use Rattle.std.proofs.Common.{subst}
use Rattle.ring_recovery.specs.Life.{IsLife}
use Rattle.ring_recovery.proofs.Adding.{begun}
use Rattle.ring_recovery.proofs.written.Written.new.Goals as goal

pub invariant_of-result : goal.invariant_of-result
invariant_of-result g c = begun _ _ _ _ _ (subst IsLife c.get-counted.ensures.value c.get-counted.ensures.range) c.requires.few c.requires.lines c.requires.legal c.requires.check c.requires.settled c.count-sure.ensures.value
