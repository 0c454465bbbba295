-- Elements of a list by their places, after a write and after a push.
use Rattle.std.proofs.Common.{inl, inr, ◌≡◌, ℕ, zero, suc, List, [], ◌∷◌, ◌++◌, length, replicate, Some, refl, sym, ap, slice_set}
use Rattle.std.specs.Prelude.{◌⊎◌, slice_get}
use Rattle.std.proofs.lemmas.Option.{same_Some, none-some}

-- an element written over itself changes nothing
pub slice_set-same : {X : Type 0} (xs : List X) (i : ℕ) (x : X) → slice_get xs i ≡ Some x → slice_set xs i x ≡ xs
slice_set-same [] i x h = refl
slice_set-same (y ∷ ys) zero x h = ap (λ z. z ∷ ys) (sym (same_Some y x h))
slice_set-same {X} (y ∷ ys) (suc i) x h = ap (λ (zs : List X). y ∷ zs) (slice_set-same ys i x h)

-- the element at a place after a write: the one before, or the written one
pub slice_get-set : {X : Type 0} (xs : List X) (i n : ℕ) (y x : X) → slice_get (slice_set xs i y) n ≡ Some x → (slice_get xs n ≡ Some x) ⊎ ((n ≡ i) × (x ≡ y))
slice_get-set [] i n y x h = inl h
slice_get-set (z ∷ zs) zero zero y x h = inr (refl, sym (same_Some y x h))
slice_get-set (z ∷ zs) zero (suc n) y x h = inl h
slice_get-set (z ∷ zs) (suc i) zero y x h = inl h
slice_get-set (z ∷ zs) (suc i) (suc n) y x h =
    elim (slice_get-set zs i n y x h) [ inl e ↦ inl e | inr e ↦ inr (ap suc e.0, e.1) ]

-- the element at a place after a push: the one before, or at the end the pushed one
pub slice_get-push : {X : Type 0} (xs : List X) (n : ℕ) (y x : X) → slice_get (xs ++ y ∷ []) n ≡ Some x → (slice_get xs n ≡ Some x) ⊎ ((n ≡ length xs) × (x ≡ y))
slice_get-push [] zero y x h = inr (refl, sym (same_Some y x h))
slice_get-push [] (suc n) y x h = inl h
slice_get-push (z ∷ zs) zero y x h = inl h
slice_get-push (z ∷ zs) (suc n) y x h =
    elim (slice_get-push zs n y x h) [ inl e ↦ inl e | inr e ↦ inr (ap suc e.0, e.1) ]

-- an element of a list of copies is one of them
pub slice_get-replicate : {X : Type 0} (n i : ℕ) (y x : X) → slice_get (replicate n y) i ≡ Some x → x ≡ y
slice_get-replicate zero i y x h = absurd (none-some x h)
slice_get-replicate (suc n) zero y x h = sym (same_Some y x h)
slice_get-replicate (suc n) (suc i) y x h = slice_get-replicate n i y x h
