use Rattle.ring_lelann.proofs.Square.{taken-square}
use Rattle.ring_lelann.proofs.work.work_is_square.Goals as goal

pub returns : goal.returns
returns c = λ ring family is fits complete. taken-square ring family is fits complete
