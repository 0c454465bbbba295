-- A change that is refused may not come.
use Rattle.std.proofs.Common.{◌≡◌, ℕ, Bool, true, List, Option, None, ap, subst}
use Rattle.std.proofs.lemmas.Bool.{false≢true}
use Rattle.ring_id.specs.Refusals.{IsRefusal}
use Rattle.ring_id.specs.declared.refusal.Refusal.{Refusal}
use Rattle.ring_any.specs.declared.any.Any.{Any}
use Rattle.ring_events.specs.declared.event.Command.TheVariants as command
use Rattle.ring_events.specs.declared.reply.Reply.{Reply}
use Rattle.ring_events.specs.declared.reply.Reply.TheVariants as reply
use Rattle.ring_terms.specs.Commands.{create_refusal, in_group, join_refusal, leave_refusal, start_refusal}
use Rattle.ring_terms.specs.Object.{Object}
use Rattle.ring_terms.specs.Steps.{Replies}
use Rattle.ring_table.specs.Histories.{starved}
use Rattle.ring_change.specs.Changes.{is_refused}
use Rattle.ring_recovery.specs.private.Replaying.{IsRefusedAt}

-- a refusal other than out of memory has its reason
has_reason : {S : Type 0} (first : Option Refusal) (grows : Bool) (old new : S) (answer : Reply) (does : Reply → Type 0) → is_refused answer ≡ true → (answer ≡ starved → ⊥) → Replies first grows old answer new does → first ≡ None → ⊥
has_reason first grows old new (reply.Refused refusal) does is granted says none = granted (ap reply.Refused (subst (λ (f : Option Refusal). IsRefusal f grows refusal) none says.1).1)
has_reason first grows old new reply.Done does is granted says none = absurd (false≢true is)
has_reason first grows old new (reply.Term term) does is granted says none = absurd (false≢true is)
has_reason first grows old new (reply.Leader term leader) does is granted says none = absurd (false≢true is)
has_reason first grows old new (reply.Undecided term) does is granted says none = absurd (false≢true is)
has_reason first grows old new (reply.Members members) does is granted says none = absurd (false≢true is)
has_reason first grows old new (reply.Terms terms) does is granted says none = absurd (false≢true is)
has_reason first grows old new (reply.Groups names) does is granted says none = absurd (false≢true is)
has_reason first grows old new reply.Moved does is granted says none = absurd (false≢true is)
has_reason first grows old new reply.Idle does is granted says none = absurd (false≢true is)
has_reason first grows old new (reply.Pending left) does is granted says none = absurd (false≢true is)
has_reason first grows old new (reply.Drained done left short) does is granted says none = absurd (false≢true is)

pub refused_create : (group : List ℕ) (algorithm : Any) (old : Object Any) → IsRefusedAt (command.Create group algorithm) old → create_refusal group old ≡ None → ⊥
refused_create group algorithm old at = has_reason _ _ old at.new at.answer _ at.refused at.call.granted at.call.step

pub refused_join : (group : List ℕ) (node : ℕ) (old : Object Any) → IsRefusedAt (command.Join group node) old → in_group group (join_refusal node) old ≡ None → ⊥
refused_join group node old at = has_reason _ _ old at.new at.answer _ at.refused at.call.granted at.call.step

pub refused_leave : (group : List ℕ) (node : ℕ) (old : Object Any) → IsRefusedAt (command.Leave group node) old → in_group group (leave_refusal node) old ≡ None → ⊥
refused_leave group node old at = has_reason _ _ old at.new at.answer _ at.refused at.call.granted at.call.step

pub refused_start : (group : List ℕ) (old : Object Any) → IsRefusedAt (command.Start group) old → in_group group start_refusal old ≡ None → ⊥
refused_start group old at = has_reason _ _ old at.new at.answer _ at.refused at.call.granted at.call.step
