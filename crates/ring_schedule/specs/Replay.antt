-- Replays over bytes: each line of the input is answered by one line, and the answers are one run of
-- the election object and of the worlds below it.
use Rattle.std.specs.Prelude.{◌≡◌, ◌⊎◌, ℕ, List, [], Result}
use Rattle.ring_id.specs.declared.refusal.Refusal.TheVariants.{BadLine}
use Rattle.ring_any.specs.Any.{any_greatest, any_table, any_two_way}
use Rattle.ring_any.specs.declared.any.Any.{Any}
use Rattle.ring_any.specs.declared.any.AnyMsg.{AnyMsg}
use Rattle.ring_events.specs.declared.event.Event.{Event}
use Rattle.ring_events.specs.declared.reply.Reply.{Reply}
use Rattle.ring_events.specs.declared.reply.Reply.TheVariants.{Refused}
use Rattle.ring_mux.specs.Quiet.{QuietIsKnown}
use Rattle.ring_terms.specs.Steps.{Step}
use Rattle.ring_mux.specs.Views.{Held}
use Rattle.ring_mux.specs.WorldSteps.{StepOfWorlds}
use Rattle.ring_grammar.specs.Spelling.{IsReply, Spells, reply_line}
use Rattle.ring_lines.specs.Ends.{End, Reading, Writing}
use Rattle.ring_lines.specs.Rounds.{AnswersLines}
use Rattle.ring_lines.specs.declared.answers.LineFault.{LineFault}

-- A line that spells an event is one step of the election object and of the worlds. Afterwards each
-- running term with nothing in flight is known at all its members.
pub record IsStep (line : List ℕ) (old : Held Any AnyMsg) (answer : Reply) (new : Held Any AnyMsg) : Type 0 where
  pub event : Event Any
  pub spelled : Spells line event
  pub object : Step any_two_way any_greatest old.object event answer new.object
  pub worlds : StepOfWorlds any_table any_two_way any_greatest old event answer new
  pub quiet : QuietIsKnown any_table new

-- A line that spells no event is refused, and nothing changes.
pub record IsBad (line : List ℕ) (old : Held Any AnyMsg) (answer : Reply) (new : Held Any AnyMsg) : Type 0 where
  pub none : (event : Event Any) → ¬ (Spells line event)
  pub refused : answer ≡ Refused BadLine
  pub same : new ≡ old

-- the reply to a line
abbrev pub RepliesTo : List ℕ → Held Any AnyMsg → Reply → Held Any AnyMsg → Type 0
RepliesTo line old answer new = IsStep line old answer new ⊎ IsBad line old answer new

-- A replay: the lines are answered by rounds, from no groups at all.
pub record Replays {S V : Type 0} (reader : End S Reading) (writer : End V Writing) (reads : ℕ)
    (result : Result ℕ LineFault) : Type 0 where
  pub final : Held Any AnyMsg
  pub answered : AnswersLines reader writer
      (record { answers = RepliesTo; spelling = reply_line; is_legal = IsReply })
      reads result (record { object = []; worlds = [] }) final
