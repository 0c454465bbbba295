-- The list of places: one node more, and what is read off it.
use Rattle.std.proofs.Common.{◌≡◌, ◌+◌, ◌<◌, ℕ, zero, suc, true, false, ltb, List, replicate, length, Option, Some, None, IfSome, MatchOption, is_some, slice_get, get_or, set, refl, sym, ap, ◌∙◌, subst, arith, inl, inr, get_or-set_other, get_or-set_same}
use Rattle.std.proofs.lemmas.Bool.{ltb-false, ltb-true}
use Rattle.std.proofs.lemmas.Option.{same_Some, slice_get_past, slice_get_read, slice_get_within}
use Rattle.ring_node.specs.declared.charter.Charter.{Charter}
use Rattle.ring_node.specs.Nodes.{Seated}
use Rattle.ring_world.specs.private.Places.{IsListed, IsPlaced, IsShared, IsUnlisted, place_at}
use Rattle.ring_world.specs.Settlements.{IsAlone}
use Rattle.ring_world.proofs.Links.{same_or_not}

-- what is there, where something is
some_there : {A : Type 0} (o : Option A) → is_some o ≡ true → (x : A) × (o ≡ Some x)
some_there None some = cc
some_there (Some x) some = (x, refl)

pub none_there : {A : Type 0} (o : Option A) → is_some o ≡ false → o ≡ None
none_there None none = refl
none_there (Some x) none = cc

-- a list that says nothing says nothing for any position
pub nothing_said : (n position : ℕ) → place_at (replicate n None) position ≡ None
nothing_said zero position = refl
nothing_said (suc n) zero = refl
nothing_said (suc n) (suc position) = nothing_said n position

-- what is so of the elements below n and of the one at n is so of those below n + 1
pub each_more : {A : Type 0} (P : A → Type 0) (xs : List A) (n : ℕ) (x : A) → slice_get xs n ≡ Some x → P x → ((k : ℕ) (y : A) → k < n → slice_get xs k ≡ Some y → P y) → (k : ℕ) (y : A) → k < n + 1 → slice_get xs k ≡ Some y → P y
each_more P xs n x there holds before k y below at =
    elim (same_or_not k n) [
      | inr differ ↦ before k y (omega arith) at
      | inl here ↦ subst P (same_Some x y (sym there ∙ ap (slice_get xs) (sym here) ∙ at)) holds
    ]

module _ {E M : Type 0} (charter : Charter E) (nodes : List (Seated E M)) (n : ℕ) (at : List (Option ℕ)) (before : IsPlaced charter nodes n at) (node : Seated E M) (there : slice_get nodes n ≡ Some node) where
  -- one node more, of another charter
  pub placed_past : (node.charter ≡ charter → ⊥) → IsPlaced charter nodes (n + 1) at
  placed_past away = record {
    below = λ position place said. let low = before.below position place said in omega arith;
    stands = before.stands;
    each = λ place another low at_place is_of_charter.
        elim (same_or_not place n) [
          | inr differ ↦ before.each place another (omega arith) at_place is_of_charter
          | inl here ↦
              let same = same_Some node another (sym there ∙ ap (slice_get nodes) (sym here) ∙ at_place) in
              absurd (away (ap (λ (x : Seated E M). x.charter) same ∙ is_of_charter))
        ];
  }

  -- one node more, of the charter, at a position for which nothing was said
  pub placed_more : node.charter ≡ charter → node.position < length at → place_at at node.position ≡ None → IsPlaced charter nodes (n + 1) (set at node.position (Some n))
  placed_more charter_is inside free =
      let said_here : place_at (set at node.position (Some n)) node.position ≡ Some n = get_or-set_same at node.position (Some n) None inside in
      record {
        below = λ position place said.
            elim (same_or_not position node.position) [
              | inl here ↦ let same : n ≡ place = same_Some n place (sym said_here ∙ ap (place_at (set at node.position (Some n))) (sym here) ∙ said) in omega arith
              | inr differ ↦ let low = before.below position place (sym (get_or-set_other at node.position position (Some n) None differ) ∙ said) in omega arith
            ];
        stands = λ position place said.
            elim (same_or_not position node.position) [
              | inl here ↦
                  let same : n ≡ place = same_Some n place (sym said_here ∙ ap (place_at (set at node.position (Some n))) (sym here) ∙ said) in
                  record { node = node; there = ap (slice_get nodes) (sym same) ∙ there; charter_is = charter_is; position_is = sym here }
              | inr differ ↦ before.stands position place (sym (get_or-set_other at node.position position (Some n) None differ) ∙ said)
            ];
        each = λ place another low at_place is_of_charter.
            elim (same_or_not place n) [
              | inl here ↦
                  let same = same_Some node another (sym there ∙ ap (slice_get nodes) (sym here) ∙ at_place) in
                  ap (place_at (set at node.position (Some n))) (ap (λ (x : Seated E M). x.position) (sym same)) ∙ said_here ∙ ap (λ (k : ℕ). Some k) (sym here)
              | inr differ ↦
                  let old = before.each place another (omega arith) at_place is_of_charter in
                  elim (same_or_not another.position node.position) [
                    | inl taken ↦ let none : None ≡ Some place = sym free ∙ ap (place_at at) (sym taken) ∙ old in absurd cc
                    | inr beside ↦ get_or-set_other at node.position another.position (Some n) None beside ∙ old
                  ]
            ];
      }

  -- a second node of the charter at its position
  pub shared_here : node.charter ≡ charter → node.position < length charter.roster → is_some (place_at at node.position) ≡ true → IsShared charter nodes
  shared_here charter_is inside some =
      let said = some_there (place_at at node.position) some in
      let first = before.stands node.position said.0 said.1 in
      let low = before.below node.position said.0 said.1 in
      record {
        position = node.position;
        inside = inside;
        shared = λ one alone.
            let one_place = alone.alone said.0 first.node first.there first.charter_is first.position_is in
            let two_place = alone.alone n node there charter_is refl in
            omega arith;
      }

-- no node has been passed
pub placed_none : {E M : Type 0} (charter : Charter E) (nodes : List (Seated E M)) (at : List (Option ℕ)) → ((position : ℕ) → place_at at position ≡ None) → IsPlaced charter nodes 0 at
placed_none charter nodes at free = record {
  below = λ position place said. let none : None ≡ Some place = sym (free position) ∙ said in absurd cc;
  stands = λ position place said. let none : None ≡ Some place = sym (free position) ∙ said in absurd cc;
  each = λ place node low at_place is_of_charter. absurd (omega arith);
}

module _ {E M : Type 0} (charter : Charter E) (nodes : List (Seated E M)) (at : List (Option ℕ)) (placed : IsPlaced charter nodes (length nodes) at) (position : ℕ) where
  -- the node that the list names for a position is the only one that stands there
  pub listed_alone : (node : Seated E M) → IsListed nodes at position node → IsAlone charter nodes position node
  listed_alone node listed =
      let stands = placed.stands position listed.place listed.said in
      let same = same_Some stands.node node (sym stands.there ∙ listed.there) in
      record {
        place = listed.place;
        there = listed.there;
        charter_is = ap (λ (x : Seated E M). x.charter) (sym same) ∙ stands.charter_is;
        position_is = ap (λ (x : Seated E M). x.position) (sym same) ∙ stands.position_is;
        alone = λ k another at_place is_of_charter is_at.
            let within = slice_get_within nodes k another at_place in
            let said = placed.each k another within at_place is_of_charter in
            same_Some k listed.place (sym said ∙ ap (place_at at) is_at ∙ listed.said);
      }

  -- where it names none, none stands there alone
  pub unlisted_none : IsUnlisted nodes at position → (node : Seated E M) → IsAlone charter nodes position node → ⊥
  unlisted_none unlisted node alone =
      let within = slice_get_within nodes alone.place node alone.there in
      let said = placed.each alone.place node within alone.there alone.charter_is in
      let none = unlisted.none alone.place (ap (place_at at) (sym alone.position_is) ∙ said) in
      let both : None ≡ Some node = sym none ∙ alone.there in
      cc

-- where the list says nothing, it names no node
pub unlisted : {E M : Type 0} (nodes : List (Seated E M)) (at : List (Option ℕ)) (position : ℕ) → place_at at position ≡ None → IsUnlisted nodes at position
unlisted nodes at position nothing = record { none = λ place said. let never : ⊥ = cc in absurd never }

-- where it says a place, what is looked up there is the node that it names
pub found_listed : {E M A : Type 0} (nodes : List (Seated E M)) (at : List (Option ℕ)) (position place : ℕ) → place_at at position ≡ Some place → (answer : Option A) (node : A → Seated E M)
    → is_some answer ≡ ltb place (length nodes) → IfSome answer (λ x. node x ≡ get_or nodes place (node x))
    → MatchOption answer (IsUnlisted nodes at position) (λ x. IsListed nodes at position (node x))
found_listed nodes at position place said None node is item = record {
  none = λ other there. let same : other ≡ place = cc in rw same (slice_get_past nodes place (ltb-false place (length nodes) (sym is)));
}
found_listed nodes at position place said (Some x) node is item = record {
  place = place;
  said = said;
  there = slice_get_read nodes (length nodes) place (node x) refl (ltb-true place (length nodes) (sym is)) item;
}
