-- The begin that is added is for a worker that has a pass.
use Rattle.std.proofs.Common.{◌<◌, arith, vec_len}
use Rattle.std.proofs.lemmas.Grind.{common_steps}
use Rattle.std.proofs.lemmas.List.Elements.{All-push}
use Rattle.ring_service.proofs.pending.PendingBegins.add.Goals as goal

pub invariant_of-self : goal.invariant_of-self
invariant_of-self c =
    let within : c.in-Some.worker < vec_len c.loop-worker.self.passes = grind (arith, common_steps) in
    record { known = rw c.push_back_reserved.ensures.items (All-push (λ begin. begin.worker < vec_len c.loop-worker.self.passes) _ _ c.loop-worker.self.known within) }
