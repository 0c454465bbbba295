-- Lists: the elements of a list to which one is added at its end.
use Rattle.std.proofs.Common.{◌≡◌, ◌+◌, ◌<◌, ◌⊎◌, ℕ, zero, suc, List, [], ◌∷◌, ◌++◌, Some, length, slice_get, refl, ap, inl, inr, arith}
use Rattle.std.proofs.lemmas.List.{length-append}

-- an element at a place was there before, or is the one that was added
pub get_push : {A : Type 0} (xs : List A) (x y : A) (place : ℕ) → slice_get (xs ++ x ∷ []) place ≡ Some y → (slice_get xs place ≡ Some y) ⊎ ((place ≡ length xs) × (y ≡ x))
get_push [] x y zero e = let same : y ≡ x = cc in inr (refl, same)
get_push [] x y (suc place) e = cc
get_push (z ∷ xs) x y zero e = inl e
get_push (z ∷ xs) x y (suc place) e = elim (get_push xs x y place e) [
  | inl there ↦ inl there
  | inr last ↦ inr (ap suc last.0, last.1)
]

-- an element that was at a place is there still
pub get_before : {A : Type 0} (xs : List A) (x y : A) (place : ℕ) → slice_get xs place ≡ Some y → slice_get (xs ++ x ∷ []) place ≡ Some y
get_before [] x y place e = cc
get_before (z ∷ xs) x y zero e = e
get_before (z ∷ xs) x y (suc place) e = get_before xs x y place e

-- the element that was added is the last
pub get_last : {A : Type 0} (xs : List A) (x : A) → slice_get (xs ++ x ∷ []) (length xs) ≡ Some x
get_last [] x = refl
get_last (z ∷ xs) x = get_last xs x

-- a place with an element is within the list
pub get_within : {A : Type 0} (xs : List A) (place : ℕ) (y : A) → slice_get xs place ≡ Some y → place < length xs
get_within [] place y e = cc
get_within (z ∷ xs) zero y e = omega arith
get_within (z ∷ xs) (suc place) y e = let below : place < length xs = get_within xs place y e in omega (arith, below)

-- each place within the list has an element
pub get_there : {A : Type 0} (xs : List A) (place : ℕ) → place < length xs → (y : A) × (slice_get xs place ≡ Some y)
get_there [] place below = absurd (omega (arith, below))
get_there (z ∷ xs) zero below = (z, refl)
get_there (z ∷ xs) (suc place) below = get_there xs place (omega (arith, below))

-- if two lists to which one was added are equal, both parts are equal
pub push_same : {A : Type 0} (xs ys : List A) (x y : A) → xs ++ x ∷ [] ≡ ys ++ y ∷ [] → (xs ≡ ys) × (x ≡ y)
push_same [] [] x y e = let same : x ≡ y = cc in (refl, same)
push_same [] (b ∷ ys) x y e = absurd (omega (arith, ap length e, length-append ys (y ∷ [])))
push_same (a ∷ xs) [] x y e = absurd (omega (arith, ap length e, length-append xs (x ∷ [])))
push_same (a ∷ xs) (b ∷ ys) x y e =
    let first : a ≡ b = cc in
    let rest : xs ++ x ∷ [] ≡ ys ++ y ∷ [] = cc in
    let same = push_same xs ys x y rest in
    (rw (first, same.0) refl, same.1)
