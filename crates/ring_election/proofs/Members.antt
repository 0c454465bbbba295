-- Elements of a list, and their places in lists that are made of others.
use Rattle.std.proofs.Common.{◌≡◌, ◌⊎◌, inl, inr, ◌+◌, ℕ, zero, suc, Bool, true, false, cond, filter, List, [], ◌∷◌, ◌++◌, length, reverse, Some, slice_get, refl, ap, ◌∙◌, arith}
use Rattle.std.proofs.lemmas.Grind.{reverse_onto}

-- x is in the list
pub record IsIn {X : Type 0} (xs : List X) (x : X) : Type 0 where
  pub place : ℕ
  pub there : slice_get xs place ≡ Some x

-- an element of the first of two lists keeps its place
pub slice_get-append_left : {X : Type 0} (xs ys : List X) (k : ℕ) (x : X) → slice_get xs k ≡ Some x → slice_get (xs ++ ys) k ≡ Some x
slice_get-append_left [] ys k x h = cc
slice_get-append_left (y ∷ xs) ys zero x h = h
slice_get-append_left (y ∷ xs) ys (suc k) x h = slice_get-append_left xs ys k x h

-- an element of the second of two lists comes after the first list
pub slice_get-append_right : {X : Type 0} (xs ys : List X) (k : ℕ) → slice_get (xs ++ ys) (length xs + k) ≡ slice_get ys k
slice_get-append_right [] ys k = ap (slice_get ys) (omega arith)
slice_get-append_right (y ∷ xs) ys k =
    let e : suc (length xs) + k ≡ suc (length xs + k) = omega arith in
    rw e (slice_get-append_right xs ys k)

-- the first element is in the list
pub in_first : {X : Type 0} (x : X) (xs : List X) → IsIn (x ∷ xs) x
in_first x xs = record { place = zero; there = refl }

-- an element of the rest is in the list
pub in_rest : {X : Type 0} (y : X) (xs : List X) (x : X) → IsIn xs x → IsIn (y ∷ xs) x
in_rest y xs x h = record { place = suc h.place; there = h.there }

-- an element of the first of two lists is in both together
pub in_append_left : {X : Type 0} (xs ys : List X) (x : X) → IsIn xs x → IsIn (xs ++ ys) x
in_append_left xs ys x h = record { place = h.place; there = slice_get-append_left xs ys h.place x h.there }

-- an element of the second of two lists is in both together
pub in_append_right : {X : Type 0} (xs ys : List X) (x : X) → IsIn ys x → IsIn (xs ++ ys) x
in_append_right xs ys x h = record { place = length xs + h.place; there = slice_get-append_right xs ys h.place ∙ h.there }

-- an element of a list is its first element or is in the rest
pub in_cons_cases : {X : Type 0} (y : X) (xs : List X) (x : X) → IsIn (y ∷ xs) x → (y ≡ x) ⊎ IsIn xs x
in_cons_cases y xs x h = at h.place h.there
  where
    at : (k : ℕ) → slice_get (y ∷ xs) k ≡ Some x → (y ≡ x) ⊎ IsIn xs x
    at zero e = inl cc
    at (suc k) e = inr (record { place = k; there = e })

-- an element of two lists together is in one of them
pub in_append_cases : {X : Type 0} (xs ys : List X) (x : X) → IsIn (xs ++ ys) x → IsIn xs x ⊎ IsIn ys x
in_append_cases [] ys x h = inr h
in_append_cases (y ∷ xs) ys x h =
    elim (in_cons_cases y (xs ++ ys) x h) [
      | inl e ↦ inl (record { place = zero; there = ap (λ (z : _). Some z) e })
      | inr r ↦ elim (in_append_cases xs ys x r) [ inl l ↦ inl (in_rest y xs x l) | inr l ↦ inr l ]
    ]

-- an element of a list is in the reversed list
pub in_reverse : {X : Type 0} (xs : List X) (x : X) → IsIn xs x → IsIn (reverse xs) x
in_reverse [] x h = h
in_reverse (y ∷ xs) x h =
    rw (reverse_onto xs y [])
    (elim (in_cons_cases y xs x h) [
      | inl e ↦ in_append_right (reverse xs) (y ∷ []) x (record { place = zero; there = ap (λ (z : _). Some z) e })
      | inr r ↦ in_append_left (reverse xs) (y ∷ []) x (in_reverse xs x r)
    ])

-- an element that passes a test is in the filter of a list if it is in the list
pub in_filter : {X : Type 0} (p : X → Bool) (xs : List X) (x : X) → p x ≡ true → IsIn xs x → IsIn (filter p xs) x
in_filter p [] x passes h = h
in_filter {X} p (y ∷ xs) x passes h =
    elim (in_cons_cases y xs x h) [
      | inl e ↦ rw (ap p e ∙ passes) (record { place = 0; there = ap (λ (z : X). Some z) e })
      | inr r ↦ let rest = in_filter p xs x passes r in
          elim (p y) as (λ b. IsIn (cond b (y ∷ filter p xs) (filter p xs)) x) [ true ↦ in_rest y (filter p xs) x rest | false ↦ rest ]
    ]

-- a list that agrees with another at each of its places is a prefix of it
pub first_part : {X : Type 0} (xs ys : List X) → ((k : ℕ) (x : X) → slice_get xs k ≡ Some x → slice_get ys k ≡ Some x) → (rest : List X) × (xs ++ rest ≡ ys)
first_part [] ys agree = (ys, refl)
first_part (x ∷ xs) [] agree = let nothing = agree 0 x refl in cc
first_part (x ∷ xs) (y ∷ ys) agree =
    let same = agree 0 x refl in
    let rest = first_part xs ys (λ k z. agree (suc k) z) in
    (rest.0, let later = rest.1 in cc)
