use Rattle.std.proofs.Common.{ap, sym, ◌∙◌, arith}
use Rattle.ring_turn.proofs.Keeping.{learns}
use Rattle.ring_turn.proofs.lock.TurnLock.settle_by.Goals as goal

pub load-requires : goal.load-requires
load-requires g c = (
  c.loop.invariant.0 ∙ c.requires.here ∙ sym (ap (λ v. v.id) c.self.view_is),
  omega (arith, c.self.invariant.words),
  learns _ _ _ (ap (λ m. m.0.lives) c.loop.invariant.1 ∙ c.requires.idle.lives) (ap (λ m. m.0.stage) c.loop.invariant.1 ∙ c.requires.idle.stage),
)
