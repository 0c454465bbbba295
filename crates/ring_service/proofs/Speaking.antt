-- A command is never answered as a bad line is.
use Rattle.std.proofs.Common.{◌≡◌, ℕ, Bool, true, false, length, List, Option, None, Some, inl, inr, sym, ◌∙◌}
use Rattle.std.specs.Prelude.{is_some, nat_le, not, ◌==◌}
use Rattle.std.specs.List.{list_any}
use Rattle.ring_id.specs.declared.refusal.Refusal.{Refusal}
use Rattle.ring_id.specs.declared.refusal.Refusal.TheVariants as refused
use Rattle.ring_id.specs.Refusals.{IsRefusal, refused_if, unless_some}
use Rattle.ring_roster.specs.Ring.{has_number, is_numbered, position_of}
use Rattle.ring_terms.specs.Commands.{create_refusal, in_group, join_refusal, leave_refusal, member_refusal, never_refused, start_refusal, who_refusal}
use Rattle.ring_terms.specs.Object.{GroupView, Object, find, last_term}
use Rattle.ring_events.specs.declared.event.Command.{Command}
use Rattle.ring_events.specs.declared.event.Command.TheVariants.{Create, Join, Leave, Start, Who, Members, Terms, Groups}
use Rattle.ring_events.specs.declared.reply.Reply.{Reply}
use Rattle.ring_events.specs.declared.reply.Reply.TheVariants as reply
use Rattle.ring_terms.specs.Steps.{StepOf}
use Rattle.ring_table.specs.Tables.{Calls, TableView}

-- a refusal for this first reason is not that of a bad line
record IsNoBadLine (first : Option Refusal) : Type 0 where
  never : (grows : Bool) → IsRefusal first grows refused.BadLine → ⊥

nothing : IsNoBadLine None
nothing = record { never = λ grows is. let memory : refused.BadLine ≡ refused.NoMemory = is.1 in cc }

just : (refusal : Refusal) → (refused.BadLine ≡ refusal → ⊥) → IsNoBadLine (Some refusal)
just refusal other = record { never = λ grows is. other is }

first : (test : Bool) (refusal : Refusal) (rest : Option Refusal) → (refused.BadLine ≡ refusal → ⊥) → IsNoBadLine rest → IsNoBadLine (refused_if test refusal rest)
first true refusal rest other not = just refusal other
first false refusal rest other not = not

unless : {A : Type 0} (value : Option A) (refusal : Refusal) (rest : A → Option Refusal) → (refused.BadLine ≡ refusal → ⊥) → ((a : A) → IsNoBadLine (rest a)) → IsNoBadLine (unless_some value refusal rest)
unless None refusal rest other not = just refusal other
unless (Some a) refusal rest other not = not a

in_groups : {E : Type 0} (name : List ℕ) (of : GroupView E → Option Refusal) (object : Object E) → ((g : GroupView E) → IsNoBadLine (of g)) → IsNoBadLine (in_group name of object)
in_groups name of object not = unless (find name object) refused.NoGroup of (λ is. cc) not

module _ {E : Type 0} where
  create_not : (name : List ℕ) (object : Object E) → IsNoBadLine (create_refusal name object)
  create_not name object =
      first (is_some (find name object)) refused.Exists _ (λ is. cc)
      (first (nat_le 256 (length object)) refused.GroupLimit None (λ is. cc) nothing)

  join_not : (node : ℕ) (group : GroupView E) → IsNoBadLine (join_refusal node group)
  join_not node group =
      first (list_any (has_number node) group.members) refused.Member _ (λ is. cc)
      (first (nat_le 256 (length group.members)) refused.RingFull None (λ is. cc) nothing)

  leave_not : (node : ℕ) (group : GroupView E) → IsNoBadLine (leave_refusal node group)
  leave_not node group = first (not (list_any (is_numbered node) group.members)) refused.NotMember None (λ is. cc) nothing

  start_not : (group : GroupView E) → IsNoBadLine (start_refusal group)
  start_not group =
      first (length group.members == 0) refused.Empty _ (λ is. cc)
      (first (nat_le 1000 (length group.terms)) refused.TermLimit None (λ is. cc) nothing)

  who_not : (node : ℕ) (group : GroupView E) → IsNoBadLine (who_refusal node group)
  who_not node group =
      unless (last_term group) refused.NoTerm (member_refusal node) (λ is. cc)
      (λ term. unless (position_of node term.ring) refused.NotInTerm _ (λ is. cc) (λ _. nothing))

-- a step is not a bad line
pub step_not : {E : Type 0} (two_way greatest : E → Bool) (old new : Object E) (command : Command E) → StepOf two_way greatest old command (reply.Refused refused.BadLine) new → ⊥
step_not two_way greatest old new (Create name algorithm) step = (create_not name old).never true step.1
step_not two_way greatest old new (Join name node) step = (in_groups name (join_refusal node) old (join_not node)).never true step.1
step_not two_way greatest old new (Leave name node) step = (in_groups name (leave_refusal node) old (leave_not node)).never false step.1
step_not two_way greatest old new (Start name) step = (in_groups name start_refusal old start_not).never true step.1
step_not two_way greatest old new (Who name node) step = (in_groups name (who_refusal node) old (who_not node)).never false step.1
step_not two_way greatest old new (Members name) step = (in_groups name never_refused old (λ _. nothing)).never true step.1
step_not two_way greatest old new (Terms name) step = (in_groups name never_refused old (λ _. nothing)).never true step.1
step_not two_way greatest old new Groups step = nothing.never true step.1

-- so a table never answers a command as a bad line
pub call_not : {E : Type 0} (two_way greatest : E → Bool) (session : ℕ) (command : Command E) (old new : TableView E) (answer : Reply) → Calls two_way greatest session command old answer new → answer ≡ reply.Refused refused.BadLine → ⊥
call_not two_way greatest session command old new answer (inl called) bad = step_not two_way greatest old.book new.book command (rw bad at called.call.step)
call_not two_way greatest session command old new answer (inr lost) bad = let one : reply.Refused refused.NoMemory ≡ reply.Refused refused.BadLine = sym lost.refused ∙ bad in cc
