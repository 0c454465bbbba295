-- Whatever is answered, questions alone were asked, and the last place that was told did not fall.
use Rattle.std.proofs.Common.{◌≡◌, ◌≤◌, ℕ, List, Result, Ok, Err, OnErr, OnOk, ap, arith, inl, inr, refl}
use Rattle.http.specs.declared.request.Parts.{Parts}
use Rattle.http_server.specs.declared.response.Response.{Response}
use Rattle.ring_any.specs.declared.any.Any.{Any}
use Rattle.ring_events.specs.declared.event.Command.TheVariants as command
use Rattle.ring_events.specs.declared.reply.Reply.TheVariants as reply
use Rattle.ring_table.specs.declared.entry.Entry.{Entry}
use Rattle.ring_table.specs.declared.entry.Entry.TheVariants.{Call}
use Rattle.ring_http.specs.Answering.{IsAnswered}
use Rattle.ring_http.specs.Answers.{Answers, Shows}
use Rattle.ring_http.specs.Asking.{AddsQuestions}
use Rattle.ring_http.specs.declared.route.Resource.{Resource}
use Rattle.ring_http.specs.declared.route.Resource.TheVariants.{Page, Script, Style, Health, Metrics, Groups, Group, Election}
use Rattle.ring_http.specs.declared.route.Route.{Route}
use Rattle.ring_http.specs.declared.route.Route.TheVariants.{Misdirected, NotAllowed, Unknown, Found}
use Rattle.ring_http.proofs.Questions.{adds_more, adds_none, adds_one}

module _ (base most session : ℕ) (mine : List (Entry Any)) (last : ℕ) (response : Response) (now : List (Entry Any)) (later : ℕ) where
  -- what is shown of a resource
  shown : (resource : Resource) → Shows base most session mine last response now later resource → AddsQuestions session mine now
  shown Page page = adds_none session mine now page.same
  shown Script page = adds_none session mine now page.same
  shown Style page = adds_none session mine now page.same
  shown Health (inl names) = adds_one session mine now (Call session command.Groups (reply.Groups names.names)) refl names.gained
  shown Health (inr lack) = lack.lacks.adds
  shown Groups (inl names) = adds_one session mine now (Call session command.Groups (reply.Groups names.names)) refl names.gained
  shown Groups (inr lack) = lack.lacks.adds
  shown Metrics (inl all) = adds_more session mine all.mid now (adds_one session mine all.mid (Call session command.Groups (reply.Groups all.names)) refl all.listed) all.each.adds
  shown Metrics (inr lack) = lack.lacks.adds
  shown (Group name) (inl group) = adds_more session mine group.mid now group.earlier group.pictured.adds
  shown (Group name) (inr lack) = lack.lacks.adds
  shown (Election name) (inl none) = adds_none session mine now none.same
  shown (Election name) (inr (inl picture)) = adds_one session mine now (Call session (command.Terms name) (reply.Terms picture.leaders)) refl picture.gained
  shown (Election name) (inr (inr lack)) = lack.lacks.adds

  -- the last place that was told
  shown_rises : (resource : Resource) → Shows base most session mine last response now later resource → last ≤ later
  shown_rises Page page = omega (arith, page.still)
  shown_rises Script page = omega (arith, page.still)
  shown_rises Style page = omega (arith, page.still)
  shown_rises Health (inl names) = omega (arith, names.placed.1)
  shown_rises Health (inr lack) = lack.rises
  shown_rises Groups (inl names) = omega (arith, names.placed.1)
  shown_rises Groups (inr lack) = lack.rises
  shown_rises Metrics (inl all) = omega (arith, all.placed.1)
  shown_rises Metrics (inr lack) = lack.rises
  shown_rises (Group name) (inl group) = omega (arith, group.placed.1)
  shown_rises (Group name) (inr lack) = lack.rises
  shown_rises (Election name) (inl none) = omega (arith, none.still)
  shown_rises (Election name) (inr (inl picture)) = omega (arith, picture.placed.1)
  shown_rises (Election name) (inr (inr lack)) = lack.rises

  -- what is answered
  answered : (route : Route) → Answers base most session route mine last response now later → AddsQuestions session mine now
  answered Misdirected says = adds_none session mine now says.0
  answered NotAllowed says = adds_none session mine now says.0
  answered Unknown says = adds_none session mine now says.0
  answered (Found resource) shows = shown resource shows

  -- the last place that was told
  rises : (route : Route) → Answers base most session route mine last response now later → last ≤ later
  rises Misdirected says = omega (arith, says.1)
  rises NotAllowed says = omega (arith, says.1)
  rises Unknown says = omega (arith, says.1)
  rises (Found resource) shows = shown_rises resource shows

-- an answer, or an error at which the seat is as it was
pub questions_of : {T E S : Type 0} (result : Result T E) (base most session : ℕ) (head : Parts) (mine : S → List (Entry Any)) (old new : S) (last : ℕ) (response : Response) (later : ℕ) → OnOk result (IsAnswered base most session head (mine old) last response (mine new) later) → OnErr result ((new ≡ old) × (later ≡ last))
    → AddsQuestions session (mine old) (mine new)
questions_of (Ok value) base most session head mine old new last response later is same = answered base most session (mine old) last response (mine new) later is.route is.answers
questions_of (Err fault) base most session head mine old new last response later is same = adds_none session (mine old) (mine new) (ap mine same.0)

-- the last place after an answer, or after an error
pub rises_of : {T E S : Type 0} (result : Result T E) (base most session : ℕ) (head : Parts) (mine : S → List (Entry Any)) (old new : S) (last : ℕ) (response : Response) (later : ℕ) → OnOk result (IsAnswered base most session head (mine old) last response (mine new) later) → OnErr result ((new ≡ old) × (later ≡ last)) → last ≤ later
rises_of (Ok value) base most session head mine old new last response later is same = rises base most session (mine old) last response (mine new) later is.route is.answers
rises_of (Err fault) base most session head mine old new last response later is same = omega (arith, same.1)
