-- An HTTP connection that was served by a seat.
use Rattle.std.specs.Prelude.{◌≡◌, ◌⊎◌, ℕ, List, Option, Some, None}
use Rattle.http.specs.Request.{head_of}
use Rattle.http.specs.declared.request.Request.{Request}
use Rattle.http_server.specs.Exchange.{Chain}
use Rattle.http_server.specs.History.{History, IsServed}
use Rattle.http_server.specs.declared.response.Response.{Response}
use Rattle.http_server.specs.declared.state.Config.{Config}
use Rattle.ring_any.specs.declared.any.Any.{Any}
use Rattle.ring_http.specs.Answering.{IsAnswered}
use Rattle.ring_http.specs.Asking.{AddsQuestions}
use Rattle.ring_turn.specs.Seats.{SeatView, Settled}

-- a request is answered by a seat, given the last place that was told on the connection
abbrev pub AnswersRequest : ℕ → ℕ → ℕ → SeatView Any × ℕ → Request (List ℕ) → Response
    → SeatView Any × ℕ → Type 0
AnswersRequest base most session old request response new = IsAnswered base most session (head_of request) old.0.mine old.1 response new.0.mine new.1

-- A connection was served. What was sent on it is the answers to the requests that came, in order,
-- as the library of the server proves of every connection. The seat answered them one after
-- another, and `last` is the last place that was told.
pub record HasViewed (base most session : ℕ) (old new : SeatView Any) : Type 0 where
  pub config : Config
  pub history : History
  pub served : ∥ IsServed config history ∥₁
  pub last : ℕ
  pub answered : Chain (AnswersRequest base most session) (old, 0) history.calls (new, last)

-- the seat is as it was, or all that it was answered from is kept for good
abbrev pub IsTold : SeatView Any → SeatView Any → Type 0
IsTold old new = (new ≡ old) ⊎ Settled new

-- the seat has gained questions of this session, and nothing else
abbrev pub GainsQuestions : ℕ → SeatView Any → SeatView Any → Type 0
GainsQuestions session old new = AddsQuestions session old.mine new.mine

-- a fact of a seat before and after, if there is a seat
abbrev pub IfSeated : (SeatView Any → SeatView Any → Type 0) → Option (SeatView Any)
    → Option (SeatView Any) → Type 0
IfSeated P (Some old) (Some new) = P old new
IfSeated P (Some old) None = ⊥
IfSeated P None new = new ≡ None
