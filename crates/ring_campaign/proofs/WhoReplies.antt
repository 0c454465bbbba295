-- What a call of `who` replies, if it was placed.
use Rattle.std.proofs.Common.{◌≡◌, ℕ, List, sym, subst}
use Rattle.ring_any.specs.Any.{any_greatest, any_two_way, any_winner}
use Rattle.ring_any.specs.declared.any.Any.{Any}
use Rattle.ring_events.specs.declared.event.Command.TheVariants.{Who}
use Rattle.ring_events.specs.declared.reply.Reply.{Reply}
use Rattle.ring_events.specs.declared.reply.Reply.TheVariants as reply
use Rattle.ring_terms.specs.Object.{Object}
use Rattle.ring_terms.specs.Steps.{StepOf, standing_reply}
use Rattle.ring_terms.specs.declared.standing.Standing.{Standing}
use Rattle.ring_terms.specs.declared.standing.Standing.TheVariants as standing
use Rattle.ring_table.specs.Accesses.{HasStep}
use Rattle.ring_campaign.specs.private.Looking.{IsTold}

-- The reply for a standing has this form.
tells_standing : (answer : Reply) (said : Standing) → answer ≡ standing_reply said → IsTold answer
tells_standing answer (standing.Leader term leader) is = subst IsTold (sym is) tt
tells_standing answer (standing.Undecided term) is = subst IsTold (sym is) tt

-- So the reply of a step of `who` has it.
tells_step : (name : List ℕ) (node : ℕ) (old new : Object Any) (answer : Reply) → StepOf any_two_way any_greatest old (Who name node) answer new → IsTold answer
tells_step name node old new reply.Done step = tt
tells_step name node old new (reply.Leader term leader) step = tt
tells_step name node old new (reply.Undecided term) step = tt
tells_step name node old new (reply.Refused refusal) step = tt
tells_step name node old new (reply.Term term) step = tells_standing (reply.Term term) step.1.1.says.said step.1.1.says.reply_is
tells_step name node old new (reply.Members members) step = tells_standing (reply.Members members) step.1.1.says.said step.1.1.says.reply_is
tells_step name node old new (reply.Terms leaders) step = tells_standing (reply.Terms leaders) step.1.1.says.said step.1.1.says.reply_is
tells_step name node old new (reply.Groups names) step = tells_standing (reply.Groups names) step.1.1.says.said step.1.1.says.reply_is
tells_step name node old new reply.Moved step = tells_standing reply.Moved step.1.1.says.said step.1.1.says.reply_is
tells_step name node old new reply.Idle step = tells_standing reply.Idle step.1.1.says.said step.1.1.says.reply_is
tells_step name node old new (reply.Pending left) step = tells_standing (reply.Pending left) step.1.1.says.said step.1.1.says.reply_is
tells_step name node old new (reply.Drained done left starved) step = tells_standing (reply.Drained done left starved) step.1.1.says.said step.1.1.says.reply_is

-- The reply of a call that was placed has it too.
pub who_told : (name : List ℕ) (node : ℕ) (answer : Reply) → HasStep any_winner any_two_way any_greatest (Who name node) answer → IsTold answer
who_told name node answer has = tells_step name node has.step.old has.new answer has.step.call.step
