-- What the questions are answered: a list of their kind, or that there is no such group.
use Rattle.std.proofs.Common.{◌≡◌, ℕ, List, Option, None, Some, true, ap, subst, sym}
use Rattle.ring_id.specs.Refusals.{IsRefusal, unless_some}
use Rattle.ring_id.specs.declared.refusal.Refusal.{Refusal}
use Rattle.ring_id.specs.declared.refusal.Refusal.TheVariants as refused
use Rattle.ring_any.specs.Any.{any_greatest, any_two_way, any_winner}
use Rattle.ring_any.specs.declared.any.Any.{Any}
use Rattle.ring_events.specs.declared.event.Command.TheVariants.{Groups, Members, Terms}
use Rattle.ring_events.specs.declared.reply.Reply.{Reply}
use Rattle.ring_events.specs.declared.reply.Reply.TheVariants as reply
use Rattle.ring_terms.specs.Commands.{never_refused}
use Rattle.ring_terms.specs.Object.{GroupView, Object}
use Rattle.ring_table.specs.Accesses.{HasStep}
use Rattle.ring_table.specs.Histories.{IsCall, starved}
use Rattle.ring_http.specs.private.Asking.{SaysMembers, SaysNames, SaysTerms}

-- A question about a group is refused if there is no such group. A call is not refused memory.
no_group : (found : Option (GroupView Any)) (refusal : Refusal) → IsRefusal (unless_some found refused.NoGroup never_refused) true refusal → (reply.Refused refusal ≡ starved → ⊥) → refusal ≡ refused.NoGroup
no_group None refusal is granted = is
no_group (Some group) refusal is granted = absurd (granted (ap reply.Refused is.1))

-- The names of all groups.
names_listed : (answer : Reply) (names : List (List ℕ)) → answer ≡ reply.Groups names → SaysNames answer
names_listed answer names is = subst SaysNames (sym is) tt

names_called : (old new : Object Any) (answer : Reply) → IsCall any_two_way any_greatest Groups old answer new → SaysNames answer
names_called old new reply.Done call = names_listed reply.Done _ call.step.1.1
names_called old new (reply.Term term) call = names_listed (reply.Term term) _ call.step.1.1
names_called old new (reply.Leader term leader) call = names_listed (reply.Leader term leader) _ call.step.1.1
names_called old new (reply.Undecided term) call = names_listed (reply.Undecided term) _ call.step.1.1
names_called old new (reply.Members members) call = names_listed (reply.Members members) _ call.step.1.1
names_called old new (reply.Terms leaders) call = names_listed (reply.Terms leaders) _ call.step.1.1
names_called old new (reply.Groups names) call = tt
names_called old new reply.Moved call = names_listed reply.Moved _ call.step.1.1
names_called old new reply.Idle call = names_listed reply.Idle _ call.step.1.1
names_called old new (reply.Pending left) call = names_listed (reply.Pending left) _ call.step.1.1
names_called old new (reply.Drained done left starved) call = names_listed (reply.Drained done left starved) _ call.step.1.1
names_called old new (reply.Refused refusal) call = absurd (call.granted (ap reply.Refused call.step.1.1))

pub names_told : (answer : Reply) → HasStep any_winner any_two_way any_greatest Groups answer → SaysNames answer
names_told answer has = names_called has.step.old has.new answer has.step.call

-- The members of a group.
members_listed : (answer : Reply) (members : List ℕ) → answer ≡ reply.Members members → SaysMembers answer
members_listed answer members is = subst SaysMembers (sym is) tt

members_called : (name : List ℕ) (old new : Object Any) (answer : Reply) → IsCall any_two_way any_greatest (Members name) old answer new → SaysMembers answer
members_called name old new reply.Done call = members_listed reply.Done _ call.step.1.1.says
members_called name old new (reply.Term term) call = members_listed (reply.Term term) _ call.step.1.1.says
members_called name old new (reply.Leader term leader) call = members_listed (reply.Leader term leader) _ call.step.1.1.says
members_called name old new (reply.Undecided term) call = members_listed (reply.Undecided term) _ call.step.1.1.says
members_called name old new (reply.Members members) call = tt
members_called name old new (reply.Terms leaders) call = members_listed (reply.Terms leaders) _ call.step.1.1.says
members_called name old new (reply.Groups names) call = members_listed (reply.Groups names) _ call.step.1.1.says
members_called name old new reply.Moved call = members_listed reply.Moved _ call.step.1.1.says
members_called name old new reply.Idle call = members_listed reply.Idle _ call.step.1.1.says
members_called name old new (reply.Pending left) call = members_listed (reply.Pending left) _ call.step.1.1.says
members_called name old new (reply.Drained done left starved) call = members_listed (reply.Drained done left starved) _ call.step.1.1.says
members_called name old new (reply.Refused refusal) call = no_group _ refusal call.step.1 call.granted

pub members_told : (name : List ℕ) (answer : Reply) → HasStep any_winner any_two_way any_greatest (Members name) answer → SaysMembers answer
members_told name answer has = members_called name has.step.old has.new answer has.step.call

-- The leaders of a group's terms.
terms_listed : (answer : Reply) (leaders : List (Option ℕ)) → answer ≡ reply.Terms leaders → SaysTerms answer
terms_listed answer leaders is = subst SaysTerms (sym is) tt

terms_called : (name : List ℕ) (old new : Object Any) (answer : Reply) → IsCall any_two_way any_greatest (Terms name) old answer new → SaysTerms answer
terms_called name old new reply.Done call = terms_listed reply.Done _ call.step.1.1.says
terms_called name old new (reply.Term term) call = terms_listed (reply.Term term) _ call.step.1.1.says
terms_called name old new (reply.Leader term leader) call = terms_listed (reply.Leader term leader) _ call.step.1.1.says
terms_called name old new (reply.Undecided term) call = terms_listed (reply.Undecided term) _ call.step.1.1.says
terms_called name old new (reply.Members members) call = terms_listed (reply.Members members) _ call.step.1.1.says
terms_called name old new (reply.Terms leaders) call = tt
terms_called name old new (reply.Groups names) call = terms_listed (reply.Groups names) _ call.step.1.1.says
terms_called name old new reply.Moved call = terms_listed reply.Moved _ call.step.1.1.says
terms_called name old new reply.Idle call = terms_listed reply.Idle _ call.step.1.1.says
terms_called name old new (reply.Pending left) call = terms_listed (reply.Pending left) _ call.step.1.1.says
terms_called name old new (reply.Drained done left starved) call = terms_listed (reply.Drained done left starved) _ call.step.1.1.says
terms_called name old new (reply.Refused refusal) call = no_group _ refusal call.step.1 call.granted

pub terms_told : (name : List ℕ) (answer : Reply) → HasStep any_winner any_two_way any_greatest (Terms name) answer → SaysTerms answer
terms_told name answer has = terms_called name has.step.old has.new answer has.step.call
