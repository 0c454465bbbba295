-- Seats: which nodes are seated, and what a write to one place changes.
use Rattle.std.specs.Prelude.{MatchBool, not}
use Rattle.std.proofs.Common.{Bool, true, false, ◌≡◌, ◌<◌, ℕ, zero, suc, List, [], ◌∷◌, ◌++◌, length, set, replicate, Option, Some, None, slice_get, get_or, refl, sym, ap, ◌∙◌, subst, inl, inr, ◌⊎◌, arith}
use Rattle.std.proofs.lemmas.Option.{get_or_from_slice_get, none-some, same_Some, slice_get-get_or, slice_get_within}
use Rattle.std.proofs.Math.ListN.{length-set}
use Rattle.ring_node.specs.declared.charter.Charter.{Charter}
use Rattle.ring_node.specs.Nodes.{Seated}
use Rattle.ring_workers.specs.Lists.{IsOneOf}
use Rattle.ring_workers.specs.Owners.{owner_of}
use Rattle.ring_workers.specs.Seatings.{HasNodeAt, Seating, seated_in}
use Rattle.ring_workers.specs.private.Seatings.{IsFree, IsPlaced, IsSeating}
use Rattle.ring_workers.proofs.Among.{among_none, among_first, among_rest, among_cons}

-- a list around the element at a place, also when another is written there
pub record Splits {A : Type 0} (xs : List A) (place : ℕ) (x : A) : Type 0 where
  pub before : List A
  pub after : List A
  pub whole : xs ≡ before ++ x ∷ after
  pub written : (y : A) → set xs place y ≡ before ++ y ∷ after

pub split_at : {A : Type 0} (xs : List A) (place : ℕ) (x : A) → slice_get xs place ≡ Some x → Splits xs place x
split_at [] place x h = absurd (none-some x h)
split_at (z ∷ xs) zero x h = record { before = []; after = xs; whole = ap (λ v. v ∷ xs) (same_Some z x h); written = λ y. refl }
split_at (z ∷ xs) (suc k) x h =
    let rest = split_at xs k x h in
    record { before = z ∷ rest.before; after = rest.after; whole = ap (λ l. z ∷ l) rest.whole; written = λ y. ap (λ l. z ∷ l) (rest.written y) }

-- what is seated in two runs of places
pub seated_in-append : {A : Type 0} (ps qs : List (Option A)) → seated_in (ps ++ qs) ≡ seated_in ps ++ seated_in qs
seated_in-append [] qs = refl
seated_in-append (None ∷ ps) qs = seated_in-append ps qs
seated_in-append (Some x ∷ ps) qs = ap (λ l. x ∷ l) (seated_in-append ps qs)

-- what stands at a place is seated
pub seated_at : {A : Type 0} (ps : List (Option A)) (place : ℕ) (x : A) → slice_get ps place ≡ Some (Some x) → IsOneOf (seated_in ps) x
seated_at [] place x h = absurd (none-some (Some x) h)
seated_at (None ∷ ps) zero x h = absurd (none-some x (same_Some None (Some x) h))
seated_at (Some y ∷ ps) zero x h =
    let same : y ≡ x = same_Some y x (same_Some (Some y) (Some x) h) in
    subst (λ v. IsOneOf (y ∷ seated_in ps) v) same (among_first y (seated_in ps))
seated_at (None ∷ ps) (suc k) x h = seated_at ps k x h
seated_at (Some y ∷ ps) (suc k) x h = among_rest y (seated_at ps k x h)

-- what is seated stands at a place
pub place_of : {A : Type 0} (ps : List (Option A)) (x : A) → IsOneOf (seated_in ps) x → (place : ℕ) × (slice_get ps place ≡ Some (Some x))
place_of [] x h = absurd (among_none h)
place_of (None ∷ ps) x h = let rest = place_of ps x h in (suc rest.0, rest.1)
place_of (Some y ∷ ps) x h =
    elim (among_cons y (seated_in ps) x h) [
      | inl same ↦ (0, ap (λ v. Some (Some v)) same)
      | inr there ↦ (let rest = place_of ps x there in (suc rest.0, rest.1))
    ]

-- so many places without a node
abbrev pub empties : (A : Type 0) → ℕ → List (Option A)
empties A n = replicate n None

-- no node is seated there
pub seated_in-empties : (A : Type 0) (n : ℕ) → seated_in (empties A n) ≡ []
seated_in-empties A zero = refl
seated_in-empties A (suc n) = seated_in-empties A n

-- what stands at a place after a write: what was written, or what stood there
get_written : {A : Type 0} (xs : List A) (place : ℕ) (y : A) (k : ℕ) (x : A) → slice_get (set xs place y) k ≡ Some x → ((k ≡ place) × (y ≡ x)) ⊎ (slice_get xs k ≡ Some x)
get_written [] place y k x h = inr h
get_written (z ∷ xs) zero y zero x h = inl (refl, same_Some y x h)
get_written (z ∷ xs) zero y (suc k) x h = inr h
get_written (z ∷ xs) (suc place) y zero x h = inr h
get_written (z ∷ xs) (suc place) y (suc k) x h =
    elim (get_written xs place y k x h) [
      | inl new ↦ inl (ap suc new.0, new.1)
      | inr old ↦ inr old
    ]

-- nothing stands there
get_empties : {A : Type 0} (n k : ℕ) (x : A) → slice_get (empties A n) k ≡ Some (Some x) → ⊥
get_empties zero k x h = none-some (Some x) h
get_empties (suc n) zero x h = none-some x (same_Some None (Some x) h)
get_empties (suc n) (suc k) x h = get_empties n k x h

length_replicate : {A : Type 0} (n : ℕ) (x : A) → length (replicate n x) ≡ n
length_replicate zero x = refl
length_replicate (suc n) x = ap suc (length_replicate n x)

module _ {E M : Type 0} (number workers : ℕ) (charter : Charter E) where
  -- empty seats are seats
  pub seating_empty : IsSeating {E = E} {M = M} number workers charter (empties (Seated E M) (length charter.roster))
  seating_empty = record {
    size = length_replicate (length charter.roster) None;
    each = λ place node h. absurd (get_empties (length charter.roster) place node h);
  }

  -- seats stay seats where a node is written at its own place
  pub seating_set : (places : List (Option (Seated E M))) (place : ℕ) (node : Seated E M) → IsSeating number workers charter places → IsPlaced number workers charter place node
      → IsSeating number workers charter (set places place (Some node))
  seating_set places place node seats placed = record {
    size = length-set places place (Some node) ∙ seats.size;
    each = λ k other h.
        elim (get_written places place (Some node) k (Some other) h) [
          | inl new ↦ subst (λ p. IsPlaced number workers charter p other) (sym new.0) (subst (λ x. IsPlaced number workers charter place x) (same_Some node other new.1) placed)
          | inr old ↦ seats.each k other old
        ];
  }

  -- a node that stands at a place is the one of that position
  pub node_there : (places : List (Option (Seated E M))) (place : ℕ) (node : Seated E M) → IsSeating number workers charter places → slice_get places place ≡ Some (Some node)
      → HasNodeAt (seated_in places) charter place
  node_there places place node seats h = record {
    node = node;
    there = seated_at places place node h;
    charter_is = (seats.each place node h).charter_is;
    position_is = (seats.each place node h).position_is;
  }

  -- the node of a position stands at its place
  pub seat_of : (places : List (Option (Seated E M))) (place : ℕ) → IsSeating number workers charter places → (h : HasNodeAt (seated_in places) charter place)
      → slice_get places place ≡ Some (Some h.node)
  seat_of places place seats h =
      let at = place_of places h.node h.there in
      let same : at.0 ≡ place = sym (seats.each at.0 h.node at.1).position_is ∙ h.position_is in
      subst (λ p. slice_get places p ≡ Some (Some h.node)) same at.1

  -- where a place is within the ring and has no node, it is empty
  pub empty_there : (places : List (Option (Seated E M))) (place : ℕ) → IsSeating number workers charter places → place < length charter.roster
      → (slice_get places place ≡ Some None) ⊎ (slice_get places place ≡ None) → slice_get places place ≡ Some None
  empty_there places place seats inside (inl none) = none
  empty_there places place seats inside (inr past) =
      let within : place < length places = omega (arith, seats.size) in
      absurd (none-some (get_or places place None) (sym past ∙ slice_get-get_or places place None within))

module _ {E M : Type 0} (seats : Seating E M) (seating : IsSeating seats.number seats.workers seats.charter seats.places) (place : ℕ) where
  -- a node that is not seated and that the owner owns is free
  pub free_there : (member : ℕ) → Some member ≡ slice_get seats.charter.roster place → owner_of seats.workers member ≡ seats.number
      → (slice_get seats.places place ≡ Some None) ⊎ (slice_get seats.places place ≡ None) → IsFree seats place
  free_there member at owned none =
      let inside : place < length seats.charter.roster = slice_get_within seats.charter.roster place member (sym at) in
      record {
        inside = inside;
        owned = ap (owner_of seats.workers) (get_or_from_slice_get seats.charter.roster place member 0 (sym at)) ∙ owned;
        empty = empty_there seats.number seats.workers seats.charter seats.places place seating inside none;
      }

  -- one that is seated is not
  pub seated_not_free : HasNodeAt (seated_in seats.places) seats.charter place → IsFree seats place → ⊥
  seated_not_free h free =
      let at = seat_of seats.number seats.workers seats.charter seats.places place seating h in
      none-some h.node (same_Some None (Some h.node) (sym free.empty ∙ at))

  -- nor one that another owns
  pub other_not_free : (member : ℕ) → Some member ≡ slice_get seats.charter.roster place → (owner_of seats.workers member ≡ seats.number → ⊥) → IsFree seats place → ⊥
  other_not_free member at other free =
      other (sym (ap (owner_of seats.workers) (get_or_from_slice_get seats.charter.roster place member 0 (sym at))) ∙ free.owned)

-- where the ring has no such position, none is free
pub none_not_free : {E M : Type 0} (seats : Seating E M) (place : ℕ) → None ≡ slice_get seats.charter.roster place → IsFree seats place → ⊥
none_not_free seats place none free = none-some _ (none ∙ slice_get-get_or seats.charter.roster place 0 free.inside)

-- what follows from a test, of the test's opposite
pub opposite : (b : Bool) (P Q R : Type 0) → MatchBool b P Q → (Q → R) → (P → R → ⊥) → MatchBool (not b) R (R → ⊥)
opposite true P Q R h yes_then no_then = no_then h
opposite false P Q R h yes_then no_then = yes_then h
