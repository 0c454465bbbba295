-- Placing: the history that a call ends.
use Rattle.std.proofs.Common.{◌≡◌, ℕ, Bool, [], ◌∷◌, length, ap, ◌∙◌, subst}
use Rattle.std.proofs.lemmas.List.{length-append}
use Rattle.ring_events.specs.declared.event.Command.{Command}
use Rattle.ring_events.specs.declared.reply.Reply.{Reply}
use Rattle.ring_table.specs.Histories.{IsLegal}
use Rattle.ring_table.specs.Locks.{EndsHistory}
use Rattle.ring_table.specs.Tables.{HasCalled, TableView}
use Rattle.ring_table.specs.declared.entry.Entry.{Entry}
use Rattle.ring_table.specs.declared.entry.Entry.TheVariants.{Call}

-- a call that was made is the end of the table's history
pub ends_history : {E : Type 0} (two_way greatest : E → Bool) (session : ℕ) (command : Command E) (old new : TableView E) (answer : Reply) (place : ℕ)
    → HasCalled two_way greatest session command old answer new → IsLegal two_way greatest new.history new.book → place ≡ length new.history
    → EndsHistory two_way greatest (Call session command answer) place
ends_history {E} two_way greatest session command old new answer place called legal at = record {
  before = old.history;
  book = new.book;
  legal = subst (λ history. IsLegal two_way greatest history new.book) called.added legal;
  place_is = at ∙ ap (λ history. length history) called.added ∙ length-append old.history (Call session command answer ∷ []);
}
