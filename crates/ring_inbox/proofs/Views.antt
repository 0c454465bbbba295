-- A fact of each element of a list, by its place, stays if the list changes at one place or grows
-- by one.
use Rattle.std.proofs.Common.{◌≡◌, ◌≢◌, ◌⊎◌, ℕ, zero, suc, List, [], ◌∷◌, ◌++◌, length, set, sym, refl, ap, subst, inl, inr, ⊎_elim, arith}
use mathlib.Core.Option.{some, some-injective, some-ne-none}
use lib.ListN.{get_elem?}

module _ {A : Type 0} where
  -- an element of a list changed at one place is the written one, or was elsewhere before
  pub element_after_set : (l : List A) (i j : ℕ) (a b : A) → get_elem? (set l i a) j ≡ some b → ((j ≡ i) × (a ≡ b)) ⊎ ((j ≢ i) × (get_elem? l j ≡ some b))
  element_after_set [] i j a b e = absurd (some-ne-none b (sym e))
  element_after_set (x ∷ xs) zero zero a b e = inl (refl, some-injective a b e)
  element_after_set (x ∷ xs) zero (suc j) a b e = inr ((λ h. omega arith), e)
  element_after_set (x ∷ xs) (suc i) zero a b e = inr ((λ h. omega arith), e)
  element_after_set (x ∷ xs) (suc i) (suc j) a b e =
      ⊎_elim (λ t. inl (ap suc t.0, t.1)) (λ t. let n = t.0 in inr ((λ h. n (omega arith)), t.1)) (element_after_set xs i j a b e)

  -- an element of a list with one more at its end was there before, or is that one
  pub element_after_push : (l : List A) (a b : A) (j : ℕ) → get_elem? (l ++ a ∷ []) j ≡ some b → (get_elem? l j ≡ some b) ⊎ ((j ≡ length l) × (a ≡ b))
  element_after_push [] a b zero e = inr (refl, some-injective a b e)
  element_after_push [] a b (suc j) e = absurd (some-ne-none b (sym e))
  element_after_push (x ∷ xs) a b zero e = inl e
  element_after_push (x ∷ xs) a b (suc j) e = ⊎_elim (λ t. inl t) (λ t. inr (ap suc t.0, t.1)) (element_after_push xs a b j e)

  -- the fact holds of each element and its place
  abbrev pub Each : (ℕ → A → Type 0) → List A → Type 0
  Each F l = (j : ℕ) (a : A) → get_elem? l j ≡ some a → F j a

  -- it holds of each element of an empty list
  pub each_of_none : (F : ℕ → A → Type 0) → Each F []
  each_of_none F j a e = absurd (some-ne-none a (sym e))

  -- it stays if the list changes at one place, and it holds of the element written there
  pub each_after_set : (F : ℕ → A → Type 0) (l : List A) (i : ℕ) (a : A) → F i a → ((j : ℕ) (b : A) → j ≢ i → get_elem? l j ≡ some b → F j b) → Each F (set l i a)
  each_after_set F l i a here others j b e = ⊎_elim (λ (t : (j ≡ i) × (a ≡ b)). subst (λ (y : ℕ × A). F y.0 y.1) (λ k. (sym t.0 k, t.1 k)) here)
      (λ (t : (j ≢ i) × (get_elem? l j ≡ some b)). others j b t.0 t.1) (element_after_set l i j a b e)

  -- it stays if the list grows by one, and it holds of that one at its end
  pub each_after_push : (F : ℕ → A → Type 0) (l : List A) (a : A) → Each F l → F (length l) a → Each F (l ++ a ∷ [])
  each_after_push F l a all last j b e = ⊎_elim (λ (t : get_elem? l j ≡ some b). all j b t)
      (λ (t : (j ≡ length l) × (a ≡ b)). subst (λ (y : ℕ × A). F y.0 y.1) (λ k. (sym t.0 k, t.1 k)) last) (element_after_push l a b j e)
