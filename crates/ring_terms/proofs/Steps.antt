-- Which steps the answers of a book are, and a run with one step more.
use Rattle.std.proofs.Common.{◌≡◌, ℕ, Bool, false, List, [], ◌∷◌, ◌++◌, Option, refl, subst}
use Rattle.std.specs.Prelude.{Result, Ok, Err}
use Rattle.ring_id.specs.declared.refusal.Refusal.{Refusal}
use Rattle.ring_terms.specs.declared.standing.Standing.{Standing}
use Rattle.ring_terms.specs.declared.standing.Standing.TheVariants.{Leader, Undecided}
use Rattle.ring_terms.specs.Commands.{Answers, Shows}
use Rattle.ring_terms.specs.Object.{Object, OfGroup}
use Rattle.ring_terms.specs.Standings.{Tells}
use Rattle.ring_events.specs.declared.event.Event.{Event}
use Rattle.ring_events.specs.declared.reply.Reply.{Reply}
use Rattle.ring_events.specs.declared.reply.Reply.TheVariants.{Done}
use Rattle.ring_terms.specs.private.Replies.{done_reply, told_reply}
use Rattle.ring_terms.specs.Steps.{Replies, Run, Step, TellsReply}
use Rattle.ring_terms.proofs.Objects.{of_group}

-- a command that answers nothing but that it is done
pub done_replies : {E : Type 0} (first : Option Refusal) (grows : Bool) (old : Object E) (answer : Result (Unit {0}) Refusal) (new : Object E) (Does : Type 0) →
    Answers first grows old answer new (λ _. Does) → Replies first grows old (done_reply answer) new (λ reply. (reply ≡ Done) × Does)
done_replies first grows old (Ok done) new Does answers = (answers.0, (refl, answers.1))
done_replies first grows old (Err refusal) new Does answers = answers

-- who: the standing that the book returns is the one in the reply
pub tells_reply : {E : Type 0} (first : Option Refusal) (name : List ℕ) (node : ℕ) (object : Object E) (answer : Result Standing Refusal) → Shows first false answer (λ s. OfGroup name (Tells node s) object) →
    Replies first false object (told_reply answer) object (λ r. (object ≡ object) × OfGroup name (TellsReply node r) object)
tells_reply first name node object (Ok (Leader term leader)) shows =
    (shows.0, (refl, of_group name object (λ g tells. record { said = Leader term leader; reply_is = refl; tells = tells }) shows.1))
tells_reply first name node object (Ok (Undecided term)) shows =
    (shows.0, (refl, of_group name object (λ g tells. record { said = Undecided term; reply_is = refl; tells = tells }) shows.1))
tells_reply first name node object (Err refusal) shows = (refl, shows)

module _ {E : Type 0} (two_way greatest : E → Bool) where
  -- a run and a step after it are a run
  pub Run-push : (old mid new : Object E) (events : List (Event E)) (replies : List Reply) (event : Event E) (reply : Reply) →
      Run two_way greatest old events replies mid → Step two_way greatest mid event reply new → Run two_way greatest old (events ++ event ∷ []) (replies ++ reply ∷ []) new
  Run-push old mid new [] [] event reply run step = (new, subst (λ o. Step two_way greatest o event reply new) run step, refl)
  Run-push old mid new [] (r ∷ replies) event reply run step = absurd run
  Run-push old mid new (e ∷ events) [] event reply run step = absurd run
  Run-push old mid new (e ∷ events) (r ∷ replies) event reply run step = (run.0, run.1, Run-push run.0 mid new events replies event reply run.2 step)
