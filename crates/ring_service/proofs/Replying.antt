-- The answer of an access, as the answer to a line.
use Rattle.std.proofs.Common.{ℕ, List, [], ◌∷◌, map, refl, sym, ◌∙◌, append-nil, inl, inr}
use Rattle.ring_id.specs.declared.refusal.Refusal.TheVariants.{BadLine}
use Rattle.ring_any.specs.Any.{any_greatest, any_two_way, any_winner}
use Rattle.ring_any.specs.declared.any.Any.{Any}
use Rattle.ring_events.specs.declared.event.Command.{Command}
use Rattle.ring_events.specs.declared.event.Command.TheVariants.{Start}
use Rattle.ring_events.specs.declared.event.Event.TheVariants.{Client}
use Rattle.ring_events.specs.declared.reply.Reply.TheVariants.{Refused}
use Rattle.ring_inbox.specs.Values.{SenderLog}
use Rattle.ring_node.specs.declared.charter.Charter.{Charter}
use Rattle.ring_grammar.specs.Spelling.{Spells}
use Rattle.ring_table.specs.Accesses.{AnswersAtSeat, BeginsAtSeat, reply_of}
use Rattle.ring_service.specs.Sessions.{AnswersIn}
use Rattle.ring_service.specs.declared.pending.Waiting.{Waiting}
use Rattle.ring_service.specs.private.Telling.{Begins}
use Rattle.ring_table.specs.declared.access.Answer.{Answer}
use Rattle.ring_table.specs.declared.access.Answer.TheVariants.{Placed, Unplaced}
use Rattle.ring_table.specs.declared.entry.Entry.{Entry}
use Rattle.ring_table.specs.declared.entry.Entry.TheVariants.{Call}
use Rattle.ring_workers.specs.declared.item.Item.{Item}
use Rattle.ring_service.proofs.Speaking.{step_not}

-- a start, as a call
pub begins_answers : (session : ℕ) (group : List ℕ) (copies : ℕ) (mine : List (Entry Any)) (answer : Answer) (charters : List (Charter Any)) (now : List (Entry Any)) →
    BeginsAtSeat any_winner any_two_way any_greatest session group copies mine answer charters now → AnswersAtSeat any_winner any_two_way any_greatest session (Start group) mine answer now
begins_answers session group copies mine (Placed reply place) charters now b = (record { new = b.0.new; step = b.0.step }, b.1)
begins_answers session group copies mine (Unplaced refusal) charters now b = (b.0, b.2)

-- so a start whose begins were put to the workers
pub told_answers : {M S : Type 0} (session : ℕ) (group : List ℕ) (workers : ℕ) (mine : List (Entry Any)) (answer : Answer) (now : List (Entry Any)) (waiting after : List Waiting)
    (old new : List (SenderLog (Item Any M S))) → Begins any_winner any_two_way any_greatest session group workers mine answer now waiting after old new
    → AnswersAtSeat any_winner any_two_way any_greatest session (Start group) mine answer now
told_answers session group workers mine answer now waiting after old new begins =
    begins_answers session group workers mine answer (map (λ charter. charter.value) begins.charters) now begins.gives

-- a line that spells a command is answered by the access's answer to it
pub answers_line : (session : ℕ) (line : List ℕ) (command : Command Any) (mine : List (Entry Any)) (answer : Answer) (now : List (Entry Any)) →
    Spells line (Client command) → AnswersAtSeat any_winner any_two_way any_greatest session command mine answer now → AnswersIn session line mine (reply_of answer) now
answers_line session line command mine (Placed reply place) now spelled a = (
  Call session command reply ∷ [],
  inl (record {
    command = command;
    spelled = spelled;
    step = a.0;
    good = λ bad. step_not any_two_way any_greatest a.0.step.old a.0.new command (rw bad at a.0.step.call.step);
    entry = refl;
  }),
  a.1,
)
answers_line session line command mine (Unplaced refusal) now spelled a =
    ([], inr (inl (record { command = command; spelled = spelled; refusal = refusal; refused = refl; because = a.0; none = refl })), a.1 ∙ sym (append-nil mine))

-- a line that spells none is refused
pub unread_line : (session : ℕ) (line : List ℕ) (mine : List (Entry Any)) → ((command : Command Any) → Spells line (Client command) → ⊥) → AnswersIn session line mine (Refused BadLine) mine
unread_line session line mine unread = ([], inr (inr (record { unread = unread; refused = refl; none = refl })), sym (append-nil mine))
