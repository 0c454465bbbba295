-- A table before and after a change is carried out again.
use Rattle.std.specs.Prelude.{◌≡◌, ℕ, true, List, [], ◌∷◌, ◌++◌, Some}
use Rattle.ring_any.specs.Any.{any_greatest, any_two_way}
use Rattle.ring_any.specs.declared.any.Any.{Any}
use Rattle.ring_node.specs.Reports.{Told}
use Rattle.ring_terms.specs.Charters.{running_in}
use Rattle.ring_terms.specs.Object.{Object}
use Rattle.ring_events.specs.declared.event.Command.{Command}
use Rattle.ring_events.specs.declared.reply.Reply.{Reply}
use Rattle.ring_table.specs.Histories.{IsCall}
use Rattle.ring_table.specs.Tables.{RecordedView}
use Rattle.ring_table.specs.declared.entry.Entry.{Entry}
use Rattle.ring_change.specs.Changes.{is_refused}
use Rattle.ring_change.specs.declared.change.Change.{Change}
use Rattle.ring_change.specs.Lines.{IsMarked}
use Rattle.ring_lives.specs.Changes.{change_in}
use Rattle.ring_recovery.specs.Recovered.{IsReplayed}

-- The entry of a change was added.
pub record Redoes (old : RecordedView Any) (change : Change Any) (new : RecordedView Any)
    : Type 0 where
  pub entry : Entry Any
  pub added : new.history ≡ old.history ++ entry ∷ []
  pub made : change_in entry ≡ Some change
  pub replayed : IsReplayed entry

-- The entry of a change was added. The change has this line after this check.
pub record RedoesLine (check : ℕ) (line : List ℕ) (old : RecordedView Any) (next : ℕ)
    (new : RecordedView Any) : Type 0 where
  pub change : Change Any
  pub marked : IsMarked check line change next
  pub redoes : Redoes old change new

-- The reply to this command is a refusal, and not out of memory.
pub record IsRefusedAt (command : Command Any) (old : Object Any) : Type 0 where
  pub answer : Reply
  pub new : Object Any
  pub call : IsCall any_two_way any_greatest command old answer new
  pub refused : is_refused answer ≡ true

-- The report is that this member knows this leader. Its charter is that of the last term of the
-- group, and this is the number of that term.
pub record IsReportOf (group : List ℕ) (term member leader : ℕ) (groups : Object Any)
    (report : Told Any) : Type 0 where
  pub running : running_in group groups ≡ Some report.charter
  pub named : report.charter.group ≡ group
  pub numbered : report.charter.term ≡ term
  pub of_member : report.member ≡ member
  pub of_leader : report.leader ≡ leader
