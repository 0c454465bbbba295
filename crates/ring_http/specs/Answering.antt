-- Each request is answered by its route.
use Rattle.std.specs.Prelude.{ℕ, List}
use Rattle.http.specs.declared.request.Parts.{Parts}
use Rattle.http_server.specs.declared.response.Response.{Response}
use Rattle.ring_any.specs.declared.any.Any.{Any}
use Rattle.ring_table.specs.declared.entry.Entry.{Entry}
use Rattle.ring_http.specs.Answers.{Answers}
use Rattle.ring_http.specs.Routes.{IsRoute}
use Rattle.ring_http.specs.declared.route.Route.{Route}

-- What a request with this head asks for is answered. The seat gained the questions that were asked
-- for it. The last place that was told on the connection was `last` before, and is `later` now.
pub record IsAnswered (base most session : ℕ) (head : Parts) (mine : List (Entry Any)) (last : ℕ)
    (response : Response) (now : List (Entry Any)) (later : ℕ) : Type 0 where
  pub route : Route
  pub is : IsRoute head route
  pub answers : Answers base most session route mine last response now later
