-- Sessions over bytes: each line of the input is answered by one line. An entry that a line adds to
-- those of the session's seat is a call of this session, with the line's reply.
use Rattle.std.specs.Prelude.{◌≡◌, ◌⊎◌, ℕ, List, [], ◌∷◌, ◌++◌, Result}
use Rattle.ring_id.specs.declared.refusal.Refusal.{Refusal}
use Rattle.ring_id.specs.declared.refusal.Refusal.TheVariants.{BadLine}
use Rattle.ring_any.specs.Any.{any_greatest, any_two_way, any_winner}
use Rattle.ring_any.specs.declared.any.Any.{Any}
use Rattle.ring_events.specs.declared.event.Command.{Command}
use Rattle.ring_events.specs.declared.event.Event.TheVariants.{Client}
use Rattle.ring_events.specs.declared.reply.Reply.{Reply}
use Rattle.ring_events.specs.declared.reply.Reply.TheVariants.{Refused}
use Rattle.ring_grammar.specs.Spelling.{IsReply as IsLegalReply, Spells, reply_line}
use Rattle.ring_lines.specs.Ends.{End, Reading, Writing}
use Rattle.ring_lines.specs.Rounds.{AnswersLines}
use Rattle.ring_lines.specs.declared.answers.LineFault.{LineFault}
use Rattle.ring_table.specs.Accesses.{HasStep, LeavesOut}
use Rattle.ring_table.specs.declared.entry.Entry.{Entry}
use Rattle.ring_table.specs.declared.entry.Entry.TheVariants.{Call}

-- A line that spells a client command, and whose call was placed. The reply is that of a step, and
-- not that of a bad line. The call with this reply is the one entry that the seat gained.
pub record IsPlaced (session : ℕ) (line : List ℕ) (answer : Reply)
    (gained : List (Entry Any)) : Type 0 where
  pub command : Command Any
  pub spelled : Spells line (Client command)
  pub step : HasStep any_winner any_two_way any_greatest command answer
  pub good : answer ≡ Refused BadLine → ⊥
  pub entry : gained ≡ Call session command answer ∷ []

-- A line that spells a client command, but an allocation failed or the seat had used up its turns.
-- The reply says which, and the seat gained no entry.
pub record IsLeftOut (line : List ℕ) (answer : Reply) (gained : List (Entry Any)) : Type 0 where
  pub command : Command Any
  pub spelled : Spells line (Client command)
  pub refusal : Refusal
  pub refused : answer ≡ Refused refusal
  pub because : LeavesOut refusal
  pub none : gained ≡ []

-- A line that spells no client command is refused, and the seat gained no entry.
pub record IsUnread (line : List ℕ) (answer : Reply) (gained : List (Entry Any)) : Type 0 where
  pub unread : (command : Command Any) → ¬ (Spells line (Client command))
  pub refused : answer ≡ Refused BadLine
  pub none : gained ≡ []

-- the reply to a line of this session, and the entries that the seat gained by it
abbrev pub RepliesTo : ℕ → List ℕ → Reply → List (Entry Any) → Type 0
RepliesTo session line answer gained =
    IsPlaced session line answer gained ⊎ IsLeftOut line answer gained ⊎ IsUnread line answer gained

-- the reply, given the seat's own entries before the line and after it
abbrev pub AnswersIn : ℕ → List ℕ → List (Entry Any) → Reply → List (Entry Any) → Type 0
AnswersIn session line mine answer now =
    (gained : List (Entry Any)) × RepliesTo session line answer gained × (now ≡ mine ++ gained)

-- A session. Its lines are answered by rounds, and each line goes on from the seat that the lines
-- before it left.
abbrev pub Serves : {S V T : Type 0} → End S Reading → End V Writing → (T → List (Entry Any)) → ℕ
    → ℕ → Result ℕ LineFault → T → T → Type 0
Serves reader writer mine session reads result seat seat_now =
    AnswersLines reader writer
    (record {
      answers = λ line old answer new. AnswersIn session line (mine old) answer (mine new);
      spelling = reply_line;
      is_legal = IsLegalReply;
    })
    reads result seat seat_now
