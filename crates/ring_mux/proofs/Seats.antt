-- A member's seat in the running term of its group, and the refusals of a delivery there.
use Rattle.std.proofs.Common.{◌≡◌, ℕ, Bool, true, false, List, length, Option, Some, None, refl, sym, ap, subst, ◌∙◌}
use Rattle.std.specs.Prelude.{Result, Ok, Err}
use Rattle.std.specs.Str.{bytes_eq}
use Rattle.std.proofs.lemmas.Map.Steps.{set_value_same}
use Rattle.std.proofs.lemmas.List.Quantifiers.{position-Some}
use Rattle.ring_id.specs.declared.refusal.Refusal.{Refusal}
use Rattle.ring_id.specs.declared.refusal.Refusal.TheVariants as refused
use Rattle.ring_id.specs.declared.side.Side.{Side}
use Rattle.ring_id.specs.Refusals.{IsRefusal, unless_some}
use Rattle.ring_roster.specs.Ring.{is_numbered, position_of}
use Rattle.ring_election.specs.Tables.{Table}
use Rattle.ring_node.specs.declared.charter.Charter.{Charter}
use Rattle.ring_node.specs.Links.{link_refusal}
use Rattle.ring_world.specs.Worlds.{Cuts, Running}
use Rattle.ring_terms.specs.Charters.{running_charter}
use Rattle.ring_terms.specs.Commands.{in_group, member_refusal, running_refusal, who_refusal}
use Rattle.ring_terms.specs.Object.{GroupView, InGroup, Object, OfGroup, OfLast, TermView, find, last_term}
use Rattle.ring_terms.specs.private.Replies.{done_reply}
use Rattle.ring_terms.specs.Steps.{MovesOf, Replies, deliver_refusal}
use Rattle.ring_mux.specs.Views.{Held, IsHeld, IsWorldOf, world_in}
use Rattle.ring_mux.specs.private.Views.{IsSeat}
use Rattle.ring_mux.specs.declared.carried.Carried.TheVariants.{Moved, Idle, Refused}
use Rattle.ring_mux.specs.Journeys.{Carries, with_world}
use Rattle.ring_mux.specs.WorldSteps.{CarriesAt, CutOfWorlds}
use Rattle.ring_events.specs.declared.reply.Reply.TheVariants as reply
use Rattle.ring_mux.specs.declared.carried.Carried.{Carried}
use Rattle.ring_mux.proofs.Carrying.{option_map-some, running_ring, same_found}

-- the running term of a group that has a running charter
running_term : {E : Type 0} (name : List ℕ) (group : GroupView E) (charter : Charter E) → running_charter name group ≡ Some charter → (term : TermView) × (last_term group ≡ Some term) × (term.ring ≡ charter.roster)
running_term name group charter running =
    let some = option_map-some _ (last_term group) charter running in
    (some.0, some.1, ap (λ (c : Charter _). c.roster) (some.2))

-- a position found on the running ring is a seat, and nothing refuses it
pub seat_of : {E : Type 0} (name : List ℕ) (object : Object E) (charter : Charter E) (node i : ℕ) → OfGroup name (λ g. running_charter name g ≡ Some charter) object → position_of node charter.roster ≡ Some i
    → (in_group name (who_refusal node) object ≡ None) × OfGroup name (OfLast (λ term. position_of node term.ring ≡ Some i)) object
seat_of name object charter node i of placed =
    let running = running_term name of.group charter of.says in
    let here : position_of node running.0.ring ≡ Some i = ap (position_of node) (running.2) ∙ placed in
    (rw (of.found, running.1, here) refl, record { group = of.group; found = of.found; says = record { term = running.0; found = running.1; says = here } })

-- a seat is on the ring
pub seat_on_ring : {E : Type 0} (name : List ℕ) (object : Object E) (node i : ℕ) → OfGroup name (OfLast (λ term. position_of node term.ring ≡ Some i)) object → IsSeat name i object
seat_on_ring name object node i of = record {
  group = of.group;
  found = of.found;
  says = record { term = of.says.term; found = of.says.found; says = (position-Some (is_numbered node) of.says.term.ring i 0 of.says.says).0 };
}

-- and its group runs
pub seat_runs : {E : Type 0} {Says : TermView → Type 0} (name : List ℕ) (object : Object E) → OfGroup name (OfLast Says) object → OfGroup name (λ g. running_refusal g ≡ None) object
seat_runs name object of = record { group = of.group; found = of.found; says = rw of.says.found refl }

-- a refusal of a call that grows nothing is the first that holds
member_step : (grows : Bool) (o : Option ℕ) (rest : Option Refusal) (refusal : Refusal) → IsRefusal (unless_some o refused.NotInTerm (λ _. None)) false refusal → IsRefusal (unless_some o refused.NotInTerm (λ _. rest)) grows refusal
member_step grows None rest refusal h = h
member_step grows (Some i) rest refusal h = let bad = h.0 in cc

module _ {E : Type 0} (two_way : E → Bool) (node : ℕ) (side : Side) (refusal : Refusal) (grows : Bool) where
  term_step : (group : GroupView E) (o : Option TermView) → IsRefusal (unless_some o refused.NoTerm (member_refusal node)) false refusal
      → IsRefusal (unless_some o refused.NoTerm (λ t. unless_some (position_of node t.ring) refused.NotInTerm (λ _. link_refusal (two_way group.algorithm) side))) grows refusal
  term_step group None h = h
  term_step group (Some term) h = member_step grows (position_of node term.ring) (link_refusal (two_way group.algorithm) side) refusal h

  group_step : (o : Option (GroupView E)) → IsRefusal (unless_some o refused.NoGroup (who_refusal node)) false refusal → IsRefusal (unless_some o refused.NoGroup (deliver_refusal two_way node side)) grows refusal
  group_step None h = h
  group_step (Some group) h = term_step group (last_term group) h

  -- what refuses who refuses a delivery, and a cut
  pub refused_as_who : (name : List ℕ) (object : Object E) → IsRefusal (in_group name (who_refusal node) object) false refusal → IsRefusal (in_group name (deliver_refusal two_way node side) object) grows refusal
  refused_as_who name object h = group_step (find name object) h

-- memory is never refused to a call that grows nothing
member_grows_nothing : (o : Option ℕ) (refusal : Refusal) → IsRefusal (unless_some o refused.NotInTerm (λ _. None)) false refusal → refusal ≡ refused.NoMemory → ⊥
member_grows_nothing None refusal h memory = cc
member_grows_nothing (Some i) refusal h memory = let bad = h.0 in cc

term_grows_nothing : (o : Option TermView) (node : ℕ) (refusal : Refusal) → IsRefusal (unless_some o refused.NoTerm (member_refusal node)) false refusal → refusal ≡ refused.NoMemory → ⊥
term_grows_nothing None node refusal h memory = cc
term_grows_nothing (Some term) node refusal h memory = member_grows_nothing (position_of node term.ring) refusal h memory

group_grows_nothing : {E : Type 0} (o : Option (GroupView E)) (node : ℕ) (refusal : Refusal) → IsRefusal (unless_some o refused.NoGroup (who_refusal node)) false refusal → refusal ≡ refused.NoMemory → ⊥
group_grows_nothing None node refusal h memory = cc
group_grows_nothing (Some group) node refusal h memory = term_grows_nothing (last_term group) node refusal h memory

pub seat_grows_nothing : {E : Type 0} (name : List ℕ) (object : Object E) (node : ℕ) (refusal : Refusal) → IsRefusal (in_group name (who_refusal node) object) false refusal → refusal ≡ refused.NoMemory → ⊥
seat_grows_nothing name object node refusal h memory = group_grows_nothing (find name object) node refusal h memory

-- memory can be refused to any call that grows
grows_more : (first : Option Refusal) (grows : Bool) (refusal : Refusal) → IsRefusal first grows refusal → IsRefusal first true refusal
grows_more None grows refusal h = (refl, h.1)
grows_more (Some r) grows refusal h = h

-- a delivery at a seat
module _ {E S M : Type 0} (t : E → Table S M) (object : Object E) (worlds : List (List ℕ × Running E M)) (held : IsHeld t object worlds) (two_way greatest : E → Bool) (name : List ℕ) (node i : ℕ)
    (seat : OfGroup name (OfLast (λ term. position_of node term.ring ≡ Some i)) object) (side : Side) where
  -- its world
  kept : IsWorldOf t name seat.group seat.says.term worlds
  kept = held.each name seat.group seat.says.term seat.found seat.says.found

  charter_is : kept.world.charter ≡ record { group = name; term = length seat.group.terms; algorithm = seat.group.algorithm; roster = seat.says.term.ring }
  charter_is = running_ring name seat.group seat.says.term kept.world.charter seat.says.found kept.charter

  -- what refuses it is what the link refuses
  refusal_is : in_group name (deliver_refusal two_way node side) object ≡ link_refusal (two_way kept.world.charter.algorithm) side
  refusal_is = rw (seat.found, seat.says.found, seat.says.says) (ap (λ (c : Charter E). link_refusal (two_way c.algorithm) side) (sym charter_is))

  placed : position_of node kept.world.charter.roster ≡ Some i
  placed = rw charter_is seat.says.says

  -- what it answers: moved, idle or refused
  pub moved_at : (new : Held E M) → ((w : Running E M) → world_in name worlds ≡ Some w → Carries t two_way greatest name i side w (record { object = object; worlds = worlds }) Moved new)
      → (in_group name (deliver_refusal two_way node side) object ≡ None) × InGroup name (MovesOf greatest node) object new.object
  moved_at new carries =
      let done = carries kept.world kept.found in
      let same : done.1.before ≡ kept.world = same_found (world_in name worlds) done.1.before kept.world done.1.found kept.found in
      (refusal_is ∙ done.0, (done.1.object) node (rw same placed))

  pub idle_at : (new : Held E M) → ((w : Running E M) → world_in name worlds ≡ Some w → Carries t two_way greatest name i side w (record { object = object; worlds = worlds }) Idle new)
      → (in_group name (deliver_refusal two_way node side) object ≡ None) × (new.object ≡ object)
  idle_at new carries =
      let done = carries kept.world kept.found in
      (refusal_is ∙ done.0, ap (λ (h : Held E M). h.object) (done.2))

  pub refused_at : (new : Held E M) (refusal : Refusal) → ((w : Running E M) → world_in name worlds ≡ Some w → Carries t two_way greatest name i side w (record { object = object; worlds = worlds }) (Refused refusal) new)
      → (new.object ≡ object) × IsRefusal (in_group name (deliver_refusal two_way node side) object) true refusal
  refused_at new refusal carries =
      let done = carries kept.world kept.found in
      (ap (λ (h : Held E M). h.object) (done.1), rw refusal_is (grows_more _ _ refusal (done.0)))

  -- it is a delivery on the link into that position
  pub carries_at : (new : Held E M) (done : Carried) → ((w : Running E M) → world_in name worlds ≡ Some w → Carries t two_way greatest name i side w (record { object = object; worlds = worlds }) done new)
      → CarriesAt t two_way greatest name node side (record { object = object; worlds = worlds }) done new
  carries_at new done carries = record { world = kept.world; position = i; found = kept.found; placed = placed; carries = carries kept.world kept.found }

  pub refused_carries : (new : Held E M) (refusal : Refusal) → ((w : Running E M) → world_in name worlds ≡ Some w → Carries t two_way greatest name i side w (record { object = object; worlds = worlds }) (Refused refusal) new)
      → (new ≡ record { object = object; worlds = worlds }) × (refusal ≡ refused.NoMemory → CarriesAt t two_way greatest name node side (record { object = object; worlds = worlds }) (Refused refused.NoMemory) new)
  refused_carries new refusal carries = (
    (carries kept.world kept.found).1,
    λ memory. subst (λ (r : Refusal). CarriesAt t two_way greatest name node side (record { object = object; worlds = worlds }) (Refused r) new) memory (carries_at new (Refused refusal) carries),
  )

  -- a cut there is refused as the link refuses it, and changes nothing in the object
  pub cut_at : (answer : Result (Unit {0}) Refusal) (after : Running E M) → ((w : Running E M) → world_in name worlds ≡ Some w → Cuts (two_way w.charter.algorithm) w i side answer after)
      → Replies (in_group name (deliver_refusal two_way node side) object) false object (done_reply answer) object (λ r. (r ≡ reply.Done) × (object ≡ object))
  cut_at (Ok done) after cuts = let done = cuts kept.world kept.found in (refusal_is ∙ done.0, (refl, refl))
  cut_at (Err refusal) after cuts = let done = cuts kept.world kept.found in (refl, rw (refusal_is ∙ done.0) refl)

  -- it is a cut of the link into that position
  pub cut_worlds : (answer : Result (Unit {0}) Refusal) (after : Running E M) → ((w : Running E M) → world_in name worlds ≡ Some w → Cuts (two_way w.charter.algorithm) w i side answer after)
      → CutOfWorlds name node side (record { object = object; worlds = worlds }) (done_reply answer) (record { object = object; worlds = with_world name after worlds })
  cut_worlds (Ok done) after cuts =
      let done = cuts kept.world kept.found in
      record { world = kept.world; position = i; found = kept.found; placed = placed; worlds = ap (λ (w : Running E M). with_world name w worlds) done.1 }
  cut_worlds (Err refusal) after cuts =
      let done = cuts kept.world kept.found in
      ap (λ (l : List (List ℕ × Running E M)). record { object = object; worlds = l }) (ap (λ (w : Running E M). with_world name w worlds) done.1 ∙ set_value_same (bytes_eq name) worlds kept.world kept.found)

-- a group with a running charter runs
pub runs_of : {E : Type 0} (name : List ℕ) (object : Object E) (charter : Charter E) → OfGroup name (λ g. running_charter name g ≡ Some charter) object → OfGroup name (λ g. running_refusal g ≡ None) object
runs_of name object charter of =
    let running = running_term name of.group charter of.says in
    record { group = of.group; found = of.found; says = rw (running.1) refl }
