-- Facts on IsOneOf: what stands in lists that are made of others.
use Rattle.std.proofs.Common.{◌≡◌, ℕ, zero, suc, List, [], ◌∷◌, ◌++◌, Some, slice_get, refl, ap, inl, inr, ◌⊎◌}
use Rattle.ring_workers.specs.Lists.{IsOneOf}

-- nothing stands in the empty list
pub among_none : {A : Type 0} {x : A} → IsOneOf [] x → ⊥
among_none h = let e = h.there in cc

-- the first element
pub among_first : {A : Type 0} (x : A) (xs : List A) → IsOneOf (x ∷ xs) x
among_first x xs = record { place = 0; there = refl }

-- an element of the rest
pub among_rest : {A : Type 0} (y : A) {xs : List A} {x : A} → IsOneOf xs x → IsOneOf (y ∷ xs) x
among_rest y h = record { place = suc h.place; there = h.there }

-- an element is the first, or one of the rest
pub among_cons : {A : Type 0} (y : A) (xs : List A) (x : A) → IsOneOf (y ∷ xs) x → (y ≡ x) ⊎ IsOneOf xs x
among_cons {A} y xs x h = at h.place h.there
  where
    at : (place : ℕ) → slice_get (y ∷ xs) place ≡ Some x → (y ≡ x) ⊎ IsOneOf xs x
    at zero e = let f : y ≡ x = cc in inl f
    at (suc k) e = inr (record { place = k; there = e })

-- an element of the first of two lists
pub among_left : {A : Type 0} (xs ys : List A) (x : A) → IsOneOf xs x → IsOneOf (xs ++ ys) x
among_left xs ys x h = record { place = h.place; there = at xs h.place h.there }
  where
    at : (zs : List _) (k : ℕ) → slice_get zs k ≡ Some x → slice_get (zs ++ ys) k ≡ Some x
    at [] k e = cc
    at (z ∷ zs) zero e = e
    at (z ∷ zs) (suc k) e = at zs k e

-- an element of the second
pub among_right : {A : Type 0} (xs ys : List A) (x : A) → IsOneOf ys x → IsOneOf (xs ++ ys) x
among_right [] ys x h = h
among_right (z ∷ xs) ys x h = among_rest z (among_right xs ys x h)

-- an element of two lists is one of the first or of the second
pub among_append : {A : Type 0} (xs ys : List A) (x : A) → IsOneOf (xs ++ ys) x → IsOneOf xs x ⊎ IsOneOf ys x
among_append [] ys x h = inr h
among_append (z ∷ xs) ys x h =
    elim (among_cons z (xs ++ ys) x h) [
      | inl e ↦ inl (record { place = 0; there = ap Some e })
      | inr t ↦ elim (among_append xs ys x t) [ inl a ↦ inl (among_rest z a) | inr b ↦ inr b ]
    ]

-- the only element
pub among_one : {A : Type 0} (y x : A) → IsOneOf (y ∷ []) x → y ≡ x
among_one y x h = elim (among_cons y [] x h) [ inl e ↦ e | inr t ↦ elim (among_none t) [ ] ]

-- the last element
pub among_last : {A : Type 0} (xs : List A) (x : A) → IsOneOf (xs ++ x ∷ []) x
among_last xs x = among_right xs (x ∷ []) x (among_first x [])
