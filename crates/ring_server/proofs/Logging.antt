-- Logging: a session over any ends is one over the lists of its calls.
use Rattle.std.proofs.Common.{◌≡◌, ℕ, List, [], ◌∷◌, ◌++◌, Result, Ok, Err, refl, subst, append_assoc, append-nil}
use Rattle.std.specs.Prelude.{MatchOption, Option, Some, None}
use Rattle.ring_any.specs.declared.any.Any.{Any}
use Rattle.ring_lines.specs.Ends.{CallsLead, End, Reading, Writing, Wrote, WroteFront}
use Rattle.ring_lines.specs.Rounds.{AnswerRules, AnswersLines, Round, Rounds, WroteAll, Writes, calls_of}
use Rattle.ring_lines.specs.declared.answers.LineFault.{LineFault}
use Rattle.ring_lines.specs.declared.answers.LineFault.TheVariants as fault
use Rattle.ring_service.specs.Places.{ServesPlaced}
use Rattle.ring_service.specs.Sessions.{Serves}
use Rattle.ring_turn.specs.Seats.{SeatView}
use Rattle.ring_server.specs.Sessions.{Adds, HasServed, logged}

-- calls lead from each list to the list with them at its end
calls_logged : {A : Type 0} (calls before : List A) → CallsLead Adds before calls (before ++ calls)
calls_logged [] before = append-nil before
calls_logged (call ∷ calls) before =
    (before ++ call ∷ [], refl, subst (λ log. CallsLead Adds (before ++ call ∷ []) calls log) (append_assoc before (call ∷ []) calls) (calls_logged calls (before ++ call ∷ [])))

module _ {S V : Type 0} (reader : End S Reading) (writer : End V Writing) where
  -- a text, and a prefix of one
  wrote_logged : (from to : V) (text : List ℕ) (before : List Writing) → (wrote : Wrote writer.gives from text to) → Wrote Adds before text (before ++ wrote.log)
  wrote_logged from to text before wrote = record { log = wrote.log; calls = calls_logged wrote.log before; taken = wrote.taken; went_on = wrote.went_on }

  front_logged : (from to : V) (text : List ℕ) (before : List Writing) → (front : WroteFront writer.gives from text to) → WroteFront Adds before text (before ++ (front.before ++ front.last ∷ []))
  front_logged from to text before front = record {
    before = front.before;
    last = front.last;
    calls = calls_logged (front.before ++ front.last ∷ []) before;
    went_on = front.went_on;
    refused = front.refused;
    rest = front.rest;
    some = front.some;
    whole = front.whole;
  }

  -- rounds
  rounds_logged : (rounds : List Round) (mid : S) (out : V) → Rounds reader.gives writer.gives reader.from writer.from rounds mid out
      → (written : List Writing) × Rounds Adds Adds [] [] rounds (calls_of rounds) written
  rounds_logged [] mid out made = ([], (refl, refl))
  rounds_logged (round ∷ earlier) mid out made =
      let before : (written : List Writing) × Rounds Adds Adds [] [] earlier (calls_of earlier) written = rounds_logged earlier made.0 made.1 made.2 in
      (before.0 ++ made.4.log, (calls_of earlier, before.0, before.1, refl, wrote_logged made.1 out round.text before.0 made.4))

  -- the calls that wrote all of a text
  all_logged : (rounds : List Round) (text : List ℕ) → WroteAll reader writer rounds text
      → (written : List Writing) × WroteAll (logged (calls_of rounds)) (logged written) rounds text
  all_logged rounds text wrote =
      let made = rounds_logged rounds reader.to writer.to wrote.made in
      (made.0, record { made = made.1; all = wrote.all })

  -- the calls that wrote a text, by the result
  writes_logged : (rounds : List Round) (text : List ℕ) (result : Result ℕ LineFault) → Writes reader writer rounds text result
      → (written : List Writing) × Writes (logged (calls_of rounds)) (logged written) rounds text result
  writes_logged rounds text (Ok count) writes = all_logged rounds text writes
  writes_logged rounds text (Err fault.Read) writes = all_logged rounds text writes
  writes_logged rounds text (Err fault.Endless) writes = all_logged rounds text writes
  writes_logged rounds text (Err fault.NoMemory) writes = all_logged rounds text writes
  writes_logged rounds text (Err fault.Write) writes =
      let made = rounds_logged rounds reader.to writes.out writes.made in (
        made.0 ++ (writes.failed.before ++ writes.failed.last ∷ []),
        record { out = made.0; made = made.1; owed = writes.owed; whole = writes.whole; failed = front_logged writes.out writer.to writes.owed made.0 writes.failed },
      )

  -- lines that were answered
  answers_logged : {A B : Type 0} (rules : AnswerRules A B) (reads : ℕ) (result : Result ℕ LineFault) (old new : A) → AnswersLines reader writer rules reads result old new
      → (read : List Reading) × (written : List Writing) × AnswersLines (logged read) (logged written) rules reads result old new
  answers_logged rules reads result old new answers =
      let writes = writes_logged answers.rounds _ result answers.writes in (
        calls_of answers.rounds,
        writes.0,
        record {
          rounds = answers.rounds;
          lines = answers.lines;
          given = answers.given;
          run = answers.run;
          legal = answers.legal;
          granted = answers.granted;
          in_turn = answers.in_turn;
          answered = answers.answered;
          writes = writes.1;
        },
      )

  -- a session
  pub session_logged : (base : Option ℕ) (most session reads : ℕ) (result : Result ℕ LineFault) (old new : SeatView Any)
      → MatchOption base
      (Serves reader writer (λ (seat : SeatView Any). seat.mine) session reads result old new)
      (λ (b : ℕ). ServesPlaced reader writer (λ (seat : SeatView Any). seat.mine) b most session reads result old new)
      → HasServed base most session reads old new
  session_logged (Some base) most session reads result old new served =
      let calls = answers_logged _ reads result old new served in
      record { result = result; read = calls.0; written = calls.1; served = calls.2 }
  session_logged None most session reads result old new served =
      let calls = answers_logged _ reads result old new served in
      record { result = result; read = calls.0; written = calls.1; served = calls.2 }

  -- the session under another name of the base
  pub session_logged_as : (base told : Option ℕ) (most session reads : ℕ) (result : Result ℕ LineFault) (old new : SeatView Any) → told ≡ base
      → MatchOption told
      (Serves reader writer (λ (seat : SeatView Any). seat.mine) session reads result old new)
      (λ (b : ℕ). ServesPlaced reader writer (λ (seat : SeatView Any). seat.mine) b most session reads result old new)
      → HasServed base most session reads old new
  session_logged_as base told most session reads result old new is served =
      subst (λ (b : Option ℕ). HasServed b most session reads old new) is (session_logged told most session reads result old new served)
