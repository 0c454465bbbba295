-- Groups of the election object that are looked up and changed.
use Rattle.std.proofs.Common.{◌≡◌, ◌≢◌, ◌-◌, ◌<◌, ℕ, zero, suc, true, cond, List, [], ◌∷◌, length, Some, is_some, slice_get, slice_set, refl, ap, arith}
use Rattle.std.specs.Str.{bytes_eq}
use Rattle.std.proofs.Math.ListN.{length-set}
use Rattle.std.proofs.lemmas.Cmp.{nat_list_eq_equiv}
use Rattle.std.proofs.lemmas.Map.{lookup-set_value}
use Rattle.std.proofs.lemmas.Option.{slice_get_within}
use Rattle.std.proofs.lemmas.Slice.Eq.{bytes_eq-Decides}
use Rattle.ring_terms.specs.Object.{GroupView, InGroup, Object, OfGroup, find, with_group}

-- what is so of a group, said in other words
pub of_group : {E : Type 0} {Says Also : GroupView E → Type 0} (name : List ℕ) (object : Object E) → ((g : GroupView E) → Says g → Also g) → OfGroup name Says object → OfGroup name Also object
of_group name object also of = record { group = of.group; found = of.found; says = also of.group of.says }

-- what happens to a group, said in other words
pub in_group_as : {E : Type 0} {Does Also : GroupView E → GroupView E → Type 0} (name : List ℕ) (old new : Object E) → ((g h : GroupView E) → Does g h → Also g h) → InGroup name Does old new → InGroup name Also old new
in_group_as name old new also inside = record { before = inside.before; after = inside.after; found = inside.found; does = also inside.before inside.after inside.does; rest = inside.rest }

-- two names that are equal as bytes are one
pub same_name : (name other : List ℕ) → bytes_eq name other ≡ true → name ≡ other
same_name name other same = (bytes_eq-Decides name other).0 same

-- the group that is found after one was changed
pub find-with_group : {E : Type 0} (name : List ℕ) (before after : GroupView E) (object : Object E) → find name object ≡ Some before → (other : List ℕ) →
    find other (with_group name after object) ≡ cond (bytes_eq name other) (Some after) (find other object)
find-with_group name before after object found other =
    lookup-set_value nat_list_eq_equiv (bytes_eq name) (nat_list_eq_equiv.congr name) other after object (ap is_some found)

-- the element written at a place is there, and all others are as before
pub set_here : {X : Type 0} (xs : List X) (i : ℕ) (y : X) → i < length xs → slice_get (slice_set xs i y) i ≡ Some y
set_here [] i y h = absurd (omega arith)
set_here (x ∷ xs) zero y h = refl
set_here (x ∷ xs) (suc i) y h = set_here xs i y (omega arith)

pub set_elsewhere : {X : Type 0} (xs : List X) (i j : ℕ) (y : X) → j ≢ i → slice_get (slice_set xs i y) j ≡ slice_get xs j
set_elsewhere [] i j y differ = refl
set_elsewhere (x ∷ xs) zero zero y differ = absurd (differ refl)
set_elsewhere (x ∷ xs) zero (suc j) y differ = refl
set_elsewhere (x ∷ xs) (suc i) zero y differ = refl
set_elsewhere (x ∷ xs) (suc i) (suc j) y differ = set_elsewhere xs i j y (λ e. differ (ap suc e))

-- the last of a list, once it was written
pub last_written : {X : Type 0} (xs : List X) (x y : X) → slice_get xs (length xs - 1) ≡ Some x → slice_get (slice_set xs (length xs - 1) y) (length (slice_set xs (length xs - 1) y) - 1) ≡ Some y
last_written xs x y last = rw length-set (set_here xs (length xs - 1) y (slice_get_within xs (length xs - 1) x last))
