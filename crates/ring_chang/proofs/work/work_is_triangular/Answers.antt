use Rattle.ring_chang.proofs.Triangle.{taken-triangle}
use Rattle.ring_chang.proofs.work.work_is_triangular.Goals as goal

pub returns : goal.returns
returns c = λ ring family is fits. taken-triangle ring family fits
