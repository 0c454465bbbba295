-- What each request does to the seat of a connection.
use Rattle.std.specs.Prelude.{ℕ, List}
use Rattle.http.specs.declared.request.Request.{Request}
use Rattle.http_server.specs.declared.response.Response.{Response}
use Rattle.ring_any.specs.declared.any.Any.{Any}
use Rattle.ring_turn.specs.Seats.{SeatView}
use Rattle.ring_server.specs.Viewing.{AnswersRequest, GainsQuestions, IsTold}

-- A request was answered by a seat, which gained questions and is settled or as before.
pub record Views (base most session : ℕ) (old : SeatView Any × ℕ) (request : Request (List ℕ))
    (response : Response) (new : SeatView Any × ℕ) : Type 0 where
  pub answers : AnswersRequest base most session old request response new
  pub gained : GainsQuestions session old.0 new.0
  pub told : IsTold old.0 new.0
