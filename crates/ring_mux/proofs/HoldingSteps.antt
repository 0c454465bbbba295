-- What is so of an answer where it is known which one came, and a run of the worlds with one step more.
use Rattle.std.proofs.Common.{◌≡◌, Bool, false, List, [], ◌∷◌, ◌++◌, refl, sym, subst, true≢false}
use Rattle.std.specs.Prelude.{true, Result, Ok, Err, OnErr, OnOk, is_err}
use Rattle.ring_events.specs.declared.event.Event.{Event}
use Rattle.ring_events.specs.declared.reply.Reply.{Reply}
use Rattle.ring_mux.specs.Views.{Held}
use Rattle.ring_mux.specs.WorldSteps.{HasStepped, RunOfWorlds}
use Rattle.ring_election.specs.Tables.{Table}

-- what is so where there is a value, there being no error
pub where_not_err : {A B P : Type 0} (answer : Result A B) → is_err answer ≡ false → OnOk answer P → P
where_not_err (Ok a) none says = says
where_not_err (Err b) none says = absurd (true≢false none)

-- what is so where there is an error, there being one
pub where_err : {A B P : Type 0} (answer : Result A B) → is_err answer ≡ true → OnErr answer P → P
where_err (Ok a) some says = absurd (true≢false (sym some))
where_err (Err b) some says = says

module _ {E S M : Type 0} (t : E → Table S M) (two_way greatest : E → Bool) where
  -- and likewise below the object
  pub RunOfWorlds-push : (old mid new : Held E M) (events : List (Event E)) (replies : List Reply) (event : Event E) (reply : Reply) →
      RunOfWorlds t two_way greatest old events replies mid →
      HasStepped t two_way greatest mid event reply new →
      RunOfWorlds t two_way greatest old (events ++ event ∷ []) (replies ++ reply ∷ []) new
  RunOfWorlds-push old mid new [] [] event reply run step = (new, subst (λ (h : Held E M). HasStepped t two_way greatest h event reply new) run step, refl)
  RunOfWorlds-push old mid new [] (r ∷ replies) event reply run step = absurd run
  RunOfWorlds-push old mid new (e ∷ events) [] event reply run step = absurd run
  RunOfWorlds-push old mid new (e ∷ events) (r ∷ replies) event reply run step = (run.0, run.1, RunOfWorlds-push run.0 mid new events replies event reply run.2 step)
