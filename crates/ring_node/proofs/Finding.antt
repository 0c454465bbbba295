-- The packets taken from a side, receipt by receipt.
use Rattle.std.proofs.Common.{◌≡◌, ◌+◌, ◌-◌, ◌<◌, ℕ, zero, suc, true, false, List, ◌∷◌, length, drop, get_or, slice_get, refl, ap, arith}
use Rattle.std.proofs.lemmas.List.{drop_more}
use Rattle.ring_id.specs.declared.side.Side.{Side}
use Rattle.ring_id.specs.declared.side.Side.TheVariants.{Left, Right}
use Rattle.ring_id.specs.Sides.{same_side}
use Rattle.ring_election.specs.Traces.{taken_from}

same_side-refl : (side : Side) → same_side side side ≡ true
same_side-refl Left = refl
same_side-refl Right = refl

differ : (a b : Side) → (b ≡ a → ⊥) → same_side a b ≡ false
differ Left Left not = absurd (not refl)
differ Left Right not = refl
differ Right Left not = refl
differ Right Right not = absurd (not refl)

module _ {M : Type 0} (side : Side) (journal : List (Side × M)) (i : ℕ) (receipt : Side × M) (inside : i < length journal) (is : receipt ≡ get_or journal i receipt) where
  -- a receipt from the side is the first of the rest
  pub taken_here : receipt.0 ≡ side → taken_from side (drop i journal) ≡ receipt.1 ∷ taken_from side (drop (i + 1) journal)
  taken_here of = rw (drop_more journal i receipt inside, ← is, of, same_side-refl side) refl

  -- and one from the other side does not
  pub taken_passed : (receipt.0 ≡ side → ⊥) → taken_from side (drop i journal) ≡ taken_from side (drop (i + 1) journal)
  taken_passed not = rw (drop_more journal i receipt inside, ← is, differ side receipt.0 not) refl

-- after the first element places count one less
pub get_behind : {A : Type 0} (x : A) (xs : List A) (n m : ℕ) → (n ≡ 0 → ⊥) → m ≡ n - 1 → slice_get (x ∷ xs) n ≡ slice_get xs m
get_behind x xs zero m some is = absurd (some refl)
get_behind x xs (suc n) m some is =
    let less : n ≡ m = omega (arith, is) in
    ap (λ (k : ℕ). slice_get xs k) less
