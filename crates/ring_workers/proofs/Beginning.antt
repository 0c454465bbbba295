-- A charter begins: position after position, the nodes that the worker owns are seated.
use Rattle.std.proofs.Common.{◌≡◌, ◌+◌, ◌<◌, ◌≤◌, ℕ, zero, suc, List, length, Option, Some, None, slice_get, get_or, refl, sym, ap, ◌∙◌, subst, inl, inr, ◌⊎◌, arith}
use Rattle.std.specs.Prelude.{slice_index}
use Rattle.std.proofs.lemmas.Option.{get_or_from_slice_get, slice_get-get_or, slice_get_within}
use Rattle.ring_election.specs.Tables.{Table}
use Rattle.ring_node.specs.declared.charter.Charter.{Charter}
use Rattle.ring_node.specs.Envelopes.{Sent}
use Rattle.ring_node.specs.Nodes.{Seated}
use Rattle.ring_workers.specs.private.Goings.{Goes}
use Rattle.ring_workers.specs.Holdings.{AllSeated}
use Rattle.ring_workers.specs.Owners.{owner_of}
use Rattle.ring_workers.specs.Seatings.{HasNodeAt, Seating, seated_in}
use Rattle.ring_workers.specs.private.Seatings.{IsFree, IsSeating, KeepsTerm}
use Rattle.ring_workers.proofs.Goings.{goes_on}
use Rattle.ring_workers.proofs.Growing.{seated_later}
use Rattle.ring_workers.proofs.Seatings.{node_there}
use Rattle.ring_workers.proofs.Taking.{goes_still}

-- the owner and the term stay
pub keeps_none : {E M : Type 0} (seats : Seating E M) → KeepsTerm seats seats
keeps_none seats = record { number_is = refl; workers_is = refl; charter_is = refl }

pub keeps_on : {E M : Type 0} (a b c : Seating E M) → KeepsTerm a b → KeepsTerm b c → KeepsTerm a c
keeps_on a b c ab bc = record {
  number_is = bc.number_is ∙ ab.number_is;
  workers_is = bc.workers_is ∙ ab.workers_is;
  charter_is = bc.charter_is ∙ ab.charter_is;
}

-- a number below the next of another is below it, or is it
below_or : (k n : ℕ) → k < n + 1 → (k < n) ⊎ (k ≡ n)
below_or zero zero h = inr refl
below_or zero (suc n) h = inl (omega arith)
below_or (suc k) zero h = absurd (omega arith)
below_or (suc k) (suc n) h =
    elim (below_or k n (omega arith)) [
      | inl less ↦ (let e : suc k < suc n = omega arith in inl e)
      | inr same ↦ inr (ap suc same)
    ]

-- a node that the owner owns and that is not free is seated
seated_unless_free : {E M : Type 0} (seats : Seating E M) (position : ℕ) → IsSeating seats.number seats.workers seats.charter seats.places → (IsFree seats position → ⊥)
    → position < length seats.charter.roster → owner_of seats.workers (slice_index seats.charter.roster position) ≡ seats.number → HasNodeAt (seated_in seats.places) seats.charter position
seated_unless_free {E} {M} seats position seating taken inside owned =
    let within : position < length seats.places = omega (arith, seating.size) in
    at (get_or seats.places position None) (slice_get-get_or seats.places position None within)
  where
    at : (o : Option (Seated E M)) → slice_get seats.places position ≡ Some o → HasNodeAt (seated_in seats.places) seats.charter position
    at None h = absurd (taken (record { inside = inside; owned = owned; empty = h }))
    at (Some node) h = node_there seats.number seats.workers seats.charter seats.places position node seating h

module _ {E S M : Type 0} (t : E → Table S M) where
  -- the nodes at the positions below a number are seated, where the owner owns them
  pub record SeatedSoFar (old new : Seating E M) (waiting after : List (Sent E M)) (to : ℕ) : Type 0 where
    pub term : KeepsTerm old new
    pub kept : IsSeating new.number new.workers new.charter new.places
    pub goes : Goes t (seated_in old.places) (seated_in new.places) waiting after
    pub below : (position member : ℕ) → position < to → slice_get new.charter.roster position ≡ Some member → owner_of new.workers member ≡ new.number → HasNodeAt (seated_in new.places) new.charter position

  pub so_far_first : (old new : Seating E M) (u w : List (Sent E M)) → new ≡ old → w ≡ u → IsSeating new.number new.workers new.charter new.places → SeatedSoFar old new u w 0
  so_far_first old new u w same still kept = record {
    term = subst (λ s. KeepsTerm old s) (sym same) (keeps_none old);
    kept = kept;
    goes = goes_still t (seated_in old.places) (seated_in new.places) u w (ap (λ s. seated_in s.places) same) still;
    below = λ position member none at owned. absurd (omega arith);
  }

  -- one more is seated
  pub so_far_seated : (old mid new : Seating E M) (u v w : List (Sent E M)) (to : ℕ) → SeatedSoFar old mid u v to → KeepsTerm mid new → IsSeating new.number new.workers new.charter new.places
      → Goes t (seated_in mid.places) (seated_in new.places) v w → HasNodeAt (seated_in new.places) new.charter to → SeatedSoFar old new u w (to + 1)
  so_far_seated old mid new u v w to far keeps kept goes seated = record {
    term = keeps_on old mid new far.term keeps;
    kept = kept;
    goes = goes_on t (seated_in old.places) (seated_in mid.places) (seated_in new.places) u v w far.goes goes;
    below = below;
  }
    where
      earlier : (position member : ℕ) → position < to → slice_get new.charter.roster position ≡ Some member → owner_of new.workers member ≡ new.number → HasNodeAt (seated_in new.places) new.charter position
      earlier position member less at owned =
          let h = far.below position member less (subst (λ ch. slice_get ch.roster position ≡ Some member) keeps.charter_is at) (sym (ap (λ n. owner_of n member) keeps.workers_is) ∙ owned ∙ keeps.number_is) in
          subst (λ ch. HasNodeAt (seated_in new.places) ch position) (sym keeps.charter_is) (seated_later (seated_in mid.places) (seated_in new.places) mid.charter position h (goes.stays h.node h.there))

      below : (position member : ℕ) → position < to + 1 → slice_get new.charter.roster position ≡ Some member → owner_of new.workers member ≡ new.number → HasNodeAt (seated_in new.places) new.charter position
      below position member less at owned =
          elim (below_or position to less) [
            | inl before ↦ earlier position member before at owned
            | inr last ↦ subst (λ p. HasNodeAt (seated_in new.places) new.charter p) (sym last) seated
          ]

  -- one more was seated before, or another owns it
  pub so_far_skipped : (old new : Seating E M) (u w : List (Sent E M)) (to : ℕ) → SeatedSoFar old new u w to → (IsFree new to → ⊥) → SeatedSoFar old new u w (to + 1)
  so_far_skipped old new u w to far taken = record {
    term = far.term;
    kept = far.kept;
    goes = far.goes;
    below = λ position member less at owned.
        elim (below_or position to less) [
          | inl before ↦ far.below position member before at owned
          | inr last ↦ subst (λ p. HasNodeAt (seated_in new.places) new.charter p) (sym last)
              (seated_unless_free new to far.kept taken (subst (λ p. p < length new.charter.roster) last (slice_get_within new.charter.roster position member at))
              (ap (owner_of new.workers) (get_or_from_slice_get new.charter.roster to member 0 (subst (λ p. slice_get new.charter.roster p ≡ Some member) last at)) ∙ owned))
        ];
  }

  -- at the end all are
  pub so_far_all : (old new : Seating E M) (u w : List (Sent E M)) (to : ℕ) (charter : Charter E) → SeatedSoFar old new u w to → length new.charter.roster ≤ to → new.charter ≡ charter
      → AllSeated new.number new.workers (seated_in new.places) charter
  so_far_all old new u w to charter far end same = record {
    each = λ position member at owned.
        let here = subst (λ ch. slice_get ch.roster position ≡ Some member) (sym same) at in
        let within = slice_get_within new.charter.roster position member here in
        subst (λ ch. HasNodeAt (seated_in new.places) ch position) same (far.below position member (omega arith) here owned);
  }
