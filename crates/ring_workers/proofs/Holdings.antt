-- Holdings: whose the nodes are, and that no two are alike.
use Rattle.std.proofs.Common.{◌≡◌, ◌+◌, ℕ, zero, suc, List, [], ◌∷◌, ◌++◌, Option, Some, None, slice_get, refl, sym, ap, ◌∙◌, inl, inr, arith}
use Rattle.std.proofs.lemmas.Option.{none-some, same_Some}
use Rattle.ring_node.specs.Nodes.{Seated, member_of}
use Rattle.ring_workers.specs.Holdings.{AllOwned, NoTwoAlike, nodes_in}
use Rattle.ring_workers.specs.private.Holdings.{IsGroupAt, IsHolding}
use Rattle.ring_workers.specs.Lists.{IsOneOf}
use Rattle.ring_workers.specs.Owners.{owner_of}
use Rattle.ring_workers.specs.private.Seatings.{IsSeating}
use Rattle.ring_workers.specs.Seatings.{Seating, seated_in}
use Rattle.ring_workers.proofs.Among.{among_none, among_first, among_rest, among_append}
use Rattle.ring_workers.proofs.Seatings.{place_of}

module _ {E M : Type 0} where
  -- where no other node is alike to the first
  apart_cons : (x : Seated E M) (xs : List (Seated E M)) → NoTwoAlike xs → ((y : Seated E M) → IsOneOf xs y → x.charter ≡ y.charter → x.position ≡ y.position → ⊥) → NoTwoAlike (x ∷ xs)
  apart_cons x xs apart new = record { each = each }
    where
      each : (j k : ℕ) (a b : Seated E M) → slice_get (x ∷ xs) j ≡ Some a → slice_get (x ∷ xs) k ≡ Some b → a.charter ≡ b.charter → a.position ≡ b.position → j ≡ k
      each zero zero a b p q c s = refl
      each zero (suc k) a b p q c s =
          let same = same_Some x a p in
          absurd (new b (record { place = k; there = q }) (ap (λ n. n.charter) same ∙ c) (ap (λ n. n.position) same ∙ s))
      each (suc j) zero a b p q c s =
          let same = same_Some x b q in
          absurd (new a (record { place = j; there = p }) (ap (λ n. n.charter) same ∙ sym c) (ap (λ n. n.position) same ∙ sym s))
      each (suc j) (suc k) a b p q c s = ap suc (apart.each j k a b p q c s)

  -- two lists, of which no node of the one is alike to one of the other
  apart_append : (xs ys : List (Seated E M)) → NoTwoAlike xs → NoTwoAlike ys
      → ((x y : Seated E M) → IsOneOf xs x → IsOneOf ys y → x.charter ≡ y.charter → x.position ≡ y.position → ⊥) → NoTwoAlike (xs ++ ys)
  apart_append [] ys ax ay cross = ay
  apart_append (x ∷ xs) ys ax ay cross =
      apart_cons x (xs ++ ys)
      (apart_append xs ys (record { each = λ j k a b p q c s. suc_same j k (ax.each (suc j) (suc k) a b p q c s) }) ay (λ a b p q. cross a b (among_rest x p) q))
      (λ y h c s.
      elim (among_append xs ys y h) [
        | inl here ↦ zero_suc here.place (ax.each 0 (suc here.place) x y refl here.there c s)
        | inr there ↦ cross x y (among_first x xs) there c s
      ])
    where
      suc_same : (j k : ℕ) → suc j ≡ suc k → j ≡ k
      suc_same j k h = omega arith

      zero_suc : (k : ℕ) → 0 ≡ suc k → ⊥
      zero_suc k h = omega arith

  -- nodes at places of their own
  apart_seated : (from : ℕ) (ps : List (Option (Seated E M))) → ((p : ℕ) (node : Seated E M) → slice_get ps p ≡ Some (Some node) → node.position ≡ from + p) → NoTwoAlike (seated_in ps)
  apart_seated from [] at = record { each = λ j k a b p q c s. absurd (none-some a p) }
  apart_seated from (None ∷ ps) at = apart_seated (suc from) ps (λ p node h. let e : node.position ≡ from + suc p = at (suc p) node h in omega arith)
  apart_seated from (Some x ∷ ps) at =
      apart_cons x (seated_in ps) (apart_seated (suc from) ps (λ p node h. let e : node.position ≡ from + suc p = at (suc p) node h in omega arith))
      (λ y h c s.
      let there = place_of ps y h in
      let here : x.position ≡ from + 0 = at 0 x refl in
      let later : y.position ≡ from + suc there.0 = at (suc there.0) y there.1 in
      omega arith)

  -- a node that is held is seated in a group
  pub group_of : (groups : List (List ℕ × Seating E M)) (node : Seated E M) → IsOneOf (nodes_in groups) node → (g : List ℕ × Seating E M) × IsOneOf groups g × IsOneOf (seated_in g.1.places) node
  group_of [] node h = absurd (among_none h)
  group_of (g ∷ groups) node h =
      elim (among_append (seated_in g.1.places) (nodes_in groups) node h) [
        | inl here ↦ (g, among_first g groups, here)
        | inr rest ↦ (let there = group_of groups node rest in (there.0, among_rest g there.1, there.2))
      ]

  -- a node of a group is of the group's charter
  pub charter_there : (seats : Seating E M) (node : Seated E M) → IsSeating seats.number seats.workers seats.charter seats.places → IsOneOf (seated_in seats.places) node → node.charter ≡ seats.charter
  charter_there seats node seating h = let at = place_of seats.places node h in (seating.each at.0 node at.1).charter_is

  -- each node that is held is the owner's
  pub all_owned : (number workers : ℕ) (groups : List (List ℕ × Seating E M)) → IsHolding number workers groups → AllOwned number workers (nodes_in groups)
  all_owned number workers groups holding = record {
    each = λ node h.
        let g = group_of groups node h in
        let is = holding.each g.0 g.1 in
        let at = place_of g.0.1.places node g.2 in
        ap (λ w. owner_of w (member_of node)) (sym is.workers_is) ∙ (is.seated.each at.0 node at.1).owned ∙ is.number_is;
  }

  -- no two nodes that are held are alike
  pub no_two_alike : (number workers : ℕ) (groups : List (List ℕ × Seating E M)) → IsHolding number workers groups → NoTwoAlike (nodes_in groups)
  no_two_alike number workers [] holding = record { each = λ j k a b p q c s. absurd (none-some a p) }
  no_two_alike number workers (g ∷ groups) holding =
      apart_append (seated_in g.1.places) (nodes_in groups)
      (apart_seated 0 g.1.places (λ p node h. let e : node.position ≡ p = (first.seated.each p node h).position_is in omega arith))
      (no_two_alike number workers groups rest)
      (λ x y here there c s.
      let h = group_of groups y there in
      let is = rest.each h.0 h.1 in
      let name : g.0 ≡ h.0.0 =
      sym first.named ∙ ap (λ ch. ch.group) (sym (charter_there g.1 x first.seated here) ∙ c ∙ charter_there h.0.1 y is.seated h.2) ∙ is.named in
      zero_suc h.1.place (holding.once 0 (suc h.1.place) g h.0 refl h.1.there name))
    where
      first : IsGroupAt number workers g.0 g.1
      first = holding.each g (among_first g groups)

      suc_same : (j k : ℕ) → suc j ≡ suc k → j ≡ k
      suc_same j k h = omega arith

      rest : IsHolding number workers groups
      rest = record {
        each = λ h there. holding.each h (among_rest g there);
        once = λ j k a b p q same. suc_same j k (holding.once (suc j) (suc k) a b p q same);
      }

      zero_suc : (k : ℕ) → 0 ≡ suc k → ⊥
      zero_suc k h = omega arith
