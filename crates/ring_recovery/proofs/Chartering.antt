-- The charters of the last terms of groups, group by group.
use Rattle.std.proofs.Common.{◌≡◌, ◌+◌, ◌≤◌, ℕ, zero, suc, true, false, cond, List, [], ◌∷◌, ◌++◌, Option, Some, None, length, take, refl, ap, sym, ◌∙◌, arith, add-one}
use Rattle.std.specs.List.{slice_get}
use Rattle.std.specs.Str.{bytes_eq}
use Rattle.std.proofs.lemmas.Bool.{false≢true}
use Rattle.std.proofs.lemmas.List.{take_all}
use Rattle.std.proofs.lemmas.Option.{none-some, same_Some}
use Rattle.std.proofs.lemmas.Slice.Eq.{bytes_eq-Decides}
use Rattle.ring_id.specs.Refusals.{IsRefusal}
use Rattle.ring_id.specs.declared.refusal.Refusal.{Refusal}
use Rattle.ring_node.specs.declared.charter.Charter.{Charter}
use Rattle.ring_terms.specs.Charters.{running_charter, running_in}
use Rattle.ring_terms.specs.Commands.{in_group, running_refusal}
use Rattle.ring_terms.specs.Kept.{IsKept}
use Rattle.ring_terms.specs.Object.{GroupView, Object, OfGroup, TermView, find, last_term, names}
use Rattle.ring_lives.specs.Changes.{onto}
use Rattle.ring_recovery.specs.Charters.{running_charters}

-- a group that has a last term
pub runs : {E : Type 0} (name : List ℕ) (object : Object E) (charter : Charter E) → OfGroup name (λ g. running_charter name g ≡ Some charter) object → running_in name object ≡ Some charter
runs name object charter of = rw of.found of.says

-- a group that has none, or no group
pub rests : {E : Type 0} (name : List ℕ) (object : Object E) (refusal : Refusal) → IsRefusal (in_group name running_refusal object) false refusal → running_in name object ≡ None
rests {E} name object refusal is = elim (find name object) as (λ g. find name object ≡ g → running_in name object ≡ None) [
  | None ↦ λ found. rw found refl
  | Some group ↦ λ found. rw found (without_term group (last_term group) refl (rw found at is))
] refl
  where
    without_term : (group : GroupView E) (term : Option TermView) → last_term group ≡ term → IsRefusal (running_refusal group) false refusal → running_charter name group ≡ None
    without_term group None last is = rw last refl
    without_term group (Some term) last is = let none = rw last at is in absurd (false≢true none.0)

-- the entry of a name
key_at : {E : Type 0} (object : Object E) (i : ℕ) (name : List ℕ) → slice_get (names object) i ≡ Some name → (group : GroupView E) × (slice_get object i ≡ Some (name, group))
key_at [] i name at = absurd (none-some name at)
key_at (entry ∷ object) zero name at = (entry.1, ap (λ (n : List ℕ). Some (n, entry.1)) (same_Some entry.0 name at))
key_at (entry ∷ object) (suc i) name at = key_at object i name at

-- the entry of a group that is found
pub found_at : {E : Type 0} (name : List ℕ) (object : Object E) (group : GroupView E) → find name object ≡ Some group → (place : ℕ) × (slice_get object place ≡ Some (name, group))
found_at name [] group found = absurd (none-some group found)
found_at {E} name (entry ∷ object) group found =
    elim (bytes_eq name entry.0) as (λ b. bytes_eq name entry.0 ≡ b → cond b (Some entry.1) (find name object) ≡ Some group → (place : ℕ) × (slice_get (entry ∷ object) place ≡ Some (name, group))) [
      | true ↦ λ same here.
          let name_is : entry.0 ≡ name = sym ((bytes_eq-Decides name entry.0).0 same) in
          let group_is : entry.1 ≡ group = same_Some entry.1 group here in
          (0, (λ j. Some (name_is j, group_is j)))
      | false ↦ λ _ there. let rest = found_at name object group there in (suc rest.0, rest.1)
    ] refl found

-- a name that has an entry is found
not_lost : {E : Type 0} (name : List ℕ) (object : Object E) (i : ℕ) (group : GroupView E) → slice_get object i ≡ Some (name, group) → find name object ≡ None → ⊥
not_lost name [] i group at none = absurd (none-some (name, group) at)
not_lost {E} name (entry ∷ object) zero group at none =
    let same : entry.0 ≡ name = ap (λ (e : List ℕ × GroupView E). e.0) (same_Some entry (name, group) at) in
    let equal : bytes_eq name entry.0 ≡ true = (bytes_eq-Decides name entry.0).1 (sym same) in
    none-some entry.1 (sym (rw equal at none))
not_lost {E} name (entry ∷ object) (suc i) group at none =
    elim (bytes_eq name entry.0) as (λ b. cond b (Some entry.1) (find name object) ≡ None → ⊥) [
      | true ↦ λ some. none-some entry.1 (sym some)
      | false ↦ λ rest. not_lost name object i group at rest
    ] none

-- each entry is the one that is found by its name
pub finds : {E : Type 0} (winner : E → List ℕ → ℕ) (object : Object E) (i : ℕ) (name : List ℕ) (group : GroupView E) → IsKept winner object → slice_get object i ≡ Some (name, group) → find name object ≡ Some group
finds {E} winner object i name group kept at = elim (find name object) as (λ g. find name object ≡ g → find name object ≡ Some group) [
  | None ↦ λ none. absurd (not_lost name object i group at none)
  | Some other ↦ λ found.
      let there = found_at name object other found in
      let place : there.0 ≡ i = same_Some there.0 i (sym (kept.apart there.0 name other there.1) ∙ kept.apart i name group at) in
      let same : (name, other) ≡ (name, group) = same_Some (name, other) (name, group) (sym there.1 ∙ ap (λ (k : ℕ). slice_get object k) place ∙ at) in
      found ∙ ap (λ (e : List ℕ × GroupView E). Some e.1) same
] refl

onto_more : {A : Type 0} (x : Option A) (xs ys : List A) → onto x (xs ++ ys) ≡ onto x xs ++ ys
onto_more None xs ys = refl
onto_more (Some x) xs ys = refl

-- the charters of the first groups and of one more
more_running : {E : Type 0} (object : Object E) (i : ℕ) (name : List ℕ) (group : GroupView E) → slice_get object i ≡ Some (name, group)
    → running_charters (take (suc i) object) ≡ running_charters (take i object) ++ onto (running_charter name group) []
more_running [] i name group at = absurd (none-some (name, group) at)
more_running {E} (entry ∷ object) zero name group at = ap (λ (e : List ℕ × GroupView E). onto (running_charter e.0 e.1) []) (same_Some entry (name, group) at)
more_running {E} (entry ∷ object) (suc i) name group at =
    ap (λ (charters : List (Charter E)). onto (running_charter entry.0 entry.1) charters) (more_running object i name group at)
    ∙ onto_more (running_charter entry.0 entry.1) (running_charters (take i object)) (onto (running_charter name group) [])

pub charters_more : {E : Type 0} (winner : E → List ℕ → ℕ) (object : Object E) (i : ℕ) (name : List ℕ) → IsKept winner object → slice_get (names object) i ≡ Some name
    → running_charters (take (i + 1) object) ≡ running_charters (take i object) ++ onto (running_in name object) []
charters_more {E} winner object i name kept at =
    let entry = key_at object i name at in
    let found = finds winner object i name entry.0 kept entry.1 in
    rw (add-one, found) (more_running object i name entry.0 entry.1)

-- at the end these are the charters of all groups
pub all_charters : {E : Type 0} (object : Object E) (i : ℕ) → length (names object) ≤ i → running_charters (take i object) ≡ running_charters object
all_charters {E} object i past = ap running_charters (take_all i object (omega (arith, past, named object)))
  where
    named : (groups : Object E) → length (names groups) ≡ length groups
    named [] = refl
    named (entry ∷ groups) = ap suc (named groups)
