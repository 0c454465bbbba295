-- Sessions that write the place of each reply.
use Rattle.std.specs.Prelude.{◌≡◌, ◌<◌, ◌+◌, ℕ, List, [], ◌∷◌, ◌++◌, Result}
use Rattle.ring_any.specs.declared.any.Any.{Any}
use Rattle.ring_lines.specs.Ends.{End, Reading, Writing}
use Rattle.ring_lines.specs.Rounds.{AnswersLines}
use Rattle.ring_lines.specs.declared.answers.LineFault.{LineFault}
use Rattle.ring_table.specs.Accesses.{reply_of}
use Rattle.ring_service.specs.Sessions.{AnswersIn}
use Rattle.ring_table.specs.Places.{has_reply, placed_line}
use Rattle.ring_table.specs.declared.access.Answer.{Answer}
use Rattle.ring_table.specs.declared.access.Answer.TheVariants.{Placed, Unplaced}
use Rattle.ring_table.specs.declared.entry.Entry.{Entry}

-- The place in an answer is the sum of the base and a place of the access, which is less than
-- `most`.
abbrev pub IsToldFrom : ℕ → ℕ → ℕ → Type 0
IsToldFrom base most told = (place : ℕ) × (place < most) × (told ≡ base + place)

-- an answer has a place exactly if the seat gained an entry
abbrev pub GainsIfPlaced : ℕ → ℕ → List (Entry Any) → Answer → List (Entry Any) → Type 0
GainsIfPlaced base most mine (Placed reply told) now =
    IsToldFrom base most told × ((entry : Entry Any) × (now ≡ mine ++ entry ∷ []))
GainsIfPlaced base most mine (Unplaced refusal) now = now ≡ mine

-- The answer to a line of this session. Its reply is that of a session without places.
abbrev pub PlacesIn : ℕ → ℕ → ℕ → List ℕ → List (Entry Any) → Answer → List (Entry Any) → Type 0
PlacesIn base most session line mine answer now =
    AnswersIn session line mine (reply_of answer) now × GainsIfPlaced base most mine answer now

-- A session with places. Its lines are answered by rounds, and each line goes on from the seat that
-- the lines before it left. Places are counted from a base.
abbrev pub ServesPlaced : {S V T : Type 0} → End S Reading → End V Writing
    → (T → List (Entry Any)) → ℕ → ℕ → ℕ → ℕ → Result ℕ LineFault → T → T → Type 0
ServesPlaced reader writer mine base most session reads result seat seat_now =
    AnswersLines reader writer
    (record {
      answers = λ line old answer new. PlacesIn base most session line (mine old) answer (mine new);
      spelling = placed_line;
      is_legal = has_reply;
    })
    reads result seat seat_now
