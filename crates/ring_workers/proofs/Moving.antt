-- Moving: how many nodes there are, counted place by place and group by group.
use Rattle.std.proofs.Common.{◌≡◌, ◌+◌, ◌<◌, ◌≤◌, ℕ, zero, suc, min, arith, List, [], ◌∷◌, ◌++◌, length, take, get_or, Option, Some, None, refl, sym, ap, ◌∙◌, length-append}
use Rattle.std.proofs.lemmas.List.{append-nil, take_more}
use Rattle.std.specs.Map.{values_of}
use Rattle.ring_node.specs.Nodes.{Seated}
use Rattle.ring_workers.specs.Holdings.{nodes_in}
use Rattle.ring_workers.specs.Seatings.{Seating, seated_in}
use Rattle.ring_workers.proofs.Seatings.{seated_in-append}

-- the places up to one, and with it
seated_next : {A : Type 0} (places : List (Option A)) (i : ℕ) (place : Option A) → i < length places → place ≡ get_or places i place
    → seated_in (take (i + 1) places) ≡ seated_in (take i places) ++ seated_in (place ∷ [])
seated_next places i place within is =
    ap seated_in (take_more places i place within ∙ ap (λ (p : Option _). take i places ++ p ∷ []) (sym is)) ∙ seated_in-append (take i places) (place ∷ [])

-- a place with a node counts one more
pub counted_some : {A : Type 0} (places : List (Option A)) (i : ℕ) (place : Option A) (node : A) → i < length places → place ≡ get_or places i place → place ≡ Some node
    → length (seated_in (take (i + 1) places)) ≡ length (seated_in (take i places)) + 1
counted_some {A} places i place node within is some =
    ap length (seated_next places i place within is ∙ ap (λ (p : Option A). seated_in (take i places) ++ seated_in (p ∷ [])) some)
    ∙ length-append (seated_in (take i places)) (node ∷ [])

-- an empty place counts none
pub counted_none : {A : Type 0} (places : List (Option A)) (i : ℕ) (place : Option A) → i < length places → place ≡ get_or places i place → place ≡ None
    → length (seated_in (take (i + 1) places)) ≡ length (seated_in (take i places))
counted_none {A} places i place within is none =
    ap length (seated_next places i place within is ∙ ap (λ (p : Option A). seated_in (take i places) ++ seated_in (p ∷ [])) none ∙ append-nil (seated_in (take i places)))

-- the nodes of these seats
abbrev pub seated_all : {E M : Type 0} → List (Seating E M) → List (Seated E M)
seated_all [] = []
seated_all (seats ∷ others) = seated_in seats.places ++ seated_all others

-- are those of the groups whose seats they are
pub seated_all-values : {E M : Type 0} (groups : List (List ℕ × Seating E M)) → seated_all (values_of groups) ≡ nodes_in groups
seated_all-values [] = refl
seated_all-values (g ∷ groups) = ap (λ l. seated_in g.1.places ++ l) (seated_all-values groups)

-- the nodes of a group and of those behind it
pub nodes_next : {E M : Type 0} (groups : List (List ℕ × Seating E M)) (name : List ℕ) (seats : Seating E M) (rest : List (List ℕ × Seating E M)) → groups ≡ (name, seats) ∷ rest
    → length (nodes_in groups) ≡ length (seated_in seats.places) + length (nodes_in rest)
nodes_next groups name seats rest is = ap (λ gs. length (nodes_in gs)) is ∙ length-append (seated_in seats.places) (nodes_in rest)

-- the nodes at a place and at those behind it
pub seated_in-some : {A : Type 0} (places : List (Option A)) (place : Option A) (node : A) (rest : List (Option A)) → places ≡ place ∷ rest → place ≡ Some node → seated_in places ≡ node ∷ seated_in rest
seated_in-some {A} places place node rest is some = ap seated_in (is ∙ ap (λ (p : Option A). p ∷ rest) some)

pub seated_in-none : {A : Type 0} (places : List (Option A)) (place : Option A) (rest : List (Option A)) → places ≡ place ∷ rest → place ≡ None → seated_in places ≡ seated_in rest
seated_in-none {A} places place rest is none = ap seated_in (is ∙ ap (λ (p : Option A). p ∷ rest) none)

-- all of a list, where as much is taken
pub taken_whole : {A : Type 0} (xs : List A) (n : ℕ) → length xs ≤ n → take n xs ≡ xs
taken_whole [] zero h = refl
taken_whole [] (suc n) h = refl
taken_whole (x ∷ xs) zero h = absurd (omega arith)
taken_whole (x ∷ xs) (suc n) h = ap (λ l. x ∷ l) (taken_whole xs n (omega arith))

-- a count that stays at a greatest number, with what is left to count: it doesn't change where some of that is counted
pub counted_up_to : (most count len here rest more sum : ℕ) → sum ≡ min (count + len) most → len ≡ here → more ≡ here + rest → min (sum + rest) most ≡ min (count + more) most
counted_up_to most count len here rest more sum is same next = omega (arith, is, same, next)
