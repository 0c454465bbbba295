-- A session over a socket, and the entries that it adds to those of its seat.
use Rattle.std.specs.Prelude.{◌≡◌, ℕ, Bool, true, false, List, [], ◌∷◌, ◌++◌, Option, Some, None, Result, All, MatchOption}
use Rattle.ring_any.specs.declared.any.Any.{Any}
use Rattle.ring_lines.specs.Ends.{End, Reading, Writing}
use Rattle.ring_lines.specs.declared.answers.LineFault.{LineFault}
use Rattle.ring_service.specs.Places.{ServesPlaced}
use Rattle.ring_service.specs.Sessions.{Serves}
use Rattle.ring_table.specs.declared.entry.Entry.{Entry}
use Rattle.ring_table.specs.declared.entry.Entry.TheVariants.{Call, Filing}
use Rattle.ring_turn.specs.Seats.{SeatView}

-- the entry is a call of this session
abbrev pub IsCallOf : ℕ → Entry Any → Type 0
IsCallOf session (Call number command reply) = number ≡ session
IsCallOf session (Filing group term member leader noting) = ⊥

-- The seat has gained calls of this session, and nothing else.
pub record GainsCalls (session : ℕ) (mine now : List (Entry Any)) : Type 0 where
  pub gained : List (Entry Any)
  pub behind : now ≡ mine ++ gained
  pub theirs : All (IsCallOf session) gained

-- a call was added to the list of calls
abbrev pub Adds : {A : Type 0} → List A → A → List A → Type 0
Adds log call now = now ≡ log ++ call ∷ []

-- A reader or a writer of which nothing is known but these calls. Its state is the list of the calls
-- so far.
abbrev pub logged : {A : Type 0} → List A → End (List A) A
logged calls = record { gives = Adds; from = []; to = calls }

-- the base of the places, if places are written
abbrev pub base_if : Bool → ℕ → Option ℕ
base_if true base = Some base
base_if false base = None

-- A session was served, with places from a base or without places. Nothing is known of a socket but
-- the calls that were made and their answers. These read calls and write calls are those of the
-- session.
pub record HasServed (base : Option ℕ) (most session reads : ℕ)
    (old new : SeatView Any) : Type 0 where
  pub result : Result ℕ LineFault
  pub read : List Reading
  pub written : List Writing
  pub served : MatchOption base
      (Serves (logged read) (logged written) (λ seat. seat.mine) session reads result old new)
      (λ base.
      ServesPlaced (logged read) (logged written) (λ seat. seat.mine) base most session reads
      result old new)
