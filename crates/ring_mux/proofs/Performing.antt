-- What a mux keeps through a command that starts no term: the same worlds are seen, and they are still
-- those of the groups' last terms.
use Rattle.std.proofs.Common.{◌≡◌, ◌≤◌, ℕ, Bool, List, Option, length, refl, sym, subst}
use Rattle.ring_id.specs.declared.refusal.Refusal.{Refusal}
use Rattle.ring_election.specs.Tables.{Table}
use Rattle.ring_events.specs.declared.event.Command.{Command}
use Rattle.ring_events.specs.declared.event.Command.TheVariants.{Create, Groups, Join, Leave, Members, Start, Terms, Who}
use Rattle.ring_events.specs.declared.reply.Reply.{Reply}
use Rattle.ring_events.specs.declared.reply.Reply.TheVariants.{Refused}
use Rattle.ring_terms.specs.Object.{Object, names}
use Rattle.ring_terms.specs.Steps.{Replies, StepOf}
use Rattle.ring_world.specs.Worlds.{Running}
use Rattle.ring_mux.specs.Views.{Held, IsHeld, placed}
use Rattle.ring_mux.specs.WorldSteps.{CommandOfWorlds}
use Rattle.ring_mux.proofs.Holding.{held_creates, held_joins, held_leaves}
use Rattle.ring_mux.proofs.Places.{SeesSame, creates_sees, group_sees}

-- what is so before a command is so after it, if it is so after the command's effect
replies_keep : {S : Type 0} (P : S → Type 0) (first : Option Refusal) (grows : Bool) (old : S) (answer : Reply) (new : S) (does : Reply → Type 0) → P old → (does answer → P new) →
    Replies first grows old answer new does → P new
replies_keep P first grows old (Refused refusal) new does before after step = subst P (sym step.0) before
replies_keep P first grows old other new does before after step = after step.1

module _ {E S M : Type 0} (t : E → Table S M) (two_way greatest : E → Bool) (object after : Object E) (slots : List (Option (Running E M))) (held : IsHeld t object (placed (names object) slots))
    (few : length slots ≤ length (names object)) where
  -- the worlds of an object are seen under its names still, and are those of its last terms
  abbrev pub Stays : Object E → Type 0
  Stays other = SeesSame object other slots × IsHeld t other (placed (names object) slots)

  stays_here : Stays object
  stays_here = (record { seen = refl; few = few }, held)

  pub performed : (command : Command E) (answer : Reply) → ((name : List ℕ) → command ≡ Start name → ⊥) → StepOf two_way greatest object command answer after → Stays after
  performed (Create name algorithm) answer not step =
      replies_keep Stays _ _ object answer after _ stays_here
      (λ does. (creates_sees object after slots few name algorithm does.1, held_creates t object (placed (names object) slots) name algorithm after held does.1)) step
  performed (Join name node) answer not step =
      replies_keep Stays _ _ object answer after _ stays_here
      (λ does. (group_sees object after slots few name _ does.1, held_joins t object (placed (names object) slots) name node after held does.1)) step
  performed (Leave name node) answer not step =
      replies_keep Stays _ _ object answer after _ stays_here
      (λ does. (group_sees object after slots few name _ does.1, held_leaves t object (placed (names object) slots) name node after held does.1)) step
  performed (Start name) answer not step = absurd (not name refl)
  performed (Who name node) answer not step = replies_keep Stays _ _ object answer after _ stays_here (λ does. subst Stays (sym does.0) stays_here) step
  performed (Members name) answer not step = replies_keep Stays _ _ object answer after _ stays_here (λ does. subst Stays (sym does.0) stays_here) step
  performed (Terms name) answer not step = replies_keep Stays _ _ object answer after _ stays_here (λ does. subst Stays (sym does.0) stays_here) step
  performed Groups answer not step = replies_keep Stays _ _ object answer after _ stays_here (λ does. subst Stays (sym does.0) stays_here) step

-- a command that starts no term leaves the worlds as they are
pub performed_worlds : {E M : Type 0} (old new : Held E M) (command : Command E) (answer : Reply) → ((name : List ℕ) → command ≡ Start name → ⊥) → new.worlds ≡ old.worlds → CommandOfWorlds old command answer new
performed_worlds old new (Start name) answer not same = absurd (not name refl)
performed_worlds old new other answer not same = same
