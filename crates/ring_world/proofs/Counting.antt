-- Sums over positions in which one position counts.
use Rattle.std.proofs.Common.{◌≡◌, ◌≢◌, ◌+◌, ◌<◌, ◌==◌, ℕ, suc, Bool, true, false, cond, nat_lt, [], ◌∷◌, length, refl, sym, ap, ◌∙◌, arith, inl, inr}
use Rattle.std.proofs.lemmas.Bool.Decides.{nat_tests}
use Rattle.ring_id.specs.declared.side.Side.{Side}
use Rattle.ring_id.specs.declared.side.Side.TheVariants.{Left, Right}
use Rattle.ring_id.specs.Sides.{other, same_side}
use Rattle.ring_roster.specs.Ring.{neighbour}
use Rattle.ring_election.proofs.Rings.{neighbour-neighbour}
use Rattle.ring_world.proofs.Links.{same_or_not}

pub counts : (j i x : ℕ) → j ≡ i → cond (j == i) x 0 ≡ x
counts j i x e = grind (arith, nat_tests)

pub counts_not : (j i x : ℕ) → j ≢ i → cond (j == i) x 0 ≡ 0
counts_not j i x differ = grind (arith, nat_tests)

-- in a sum over positions
pub counts_next : (m a x : ℕ) → cond (nat_lt a (suc m)) x 0 ≡ cond (nat_lt a m) x 0 + cond (m == a) x 0
counts_next m a x = grind (arith, nat_tests)

pub counts_below : (n a x : ℕ) → a < n → cond (nat_lt a n) x 0 ≡ x
counts_below n a x below = grind (arith, nat_tests)

pub counts_nowhere : (a x : ℕ) → cond (nat_lt a 0) x 0 ≡ 0
counts_nowhere a x = grind (arith, nat_tests)

from_other : (n i : ℕ) (side : Side) → i < n → neighbour n (neighbour n i (other side)) side ≡ i
from_other n i Left below = neighbour-neighbour n i Right below
from_other n i Right below = neighbour-neighbour n i Left below

pub one_if : {A : Type 0} (p : A) (b : Bool) → length (cond b (p ∷ []) []) ≡ cond b 1 0
one_if p true = refl
one_if p false = refl

-- a position is the neighbour of another where the other is its neighbour
pub counts_link : (n m i : ℕ) (side : Side) (x : ℕ) → m < n → i < n → cond (neighbour n m side == i) x 0 ≡ cond (m == neighbour n i (other side)) x 0
counts_link n m i side x here there =
    elim (same_or_not (neighbour n m side) i) [
      | inl same ↦
          let back : m ≡ neighbour n i (other side) = sym (neighbour-neighbour n m side here) ∙ ap (λ k. neighbour n k (other side)) same in
          counts (neighbour n m side) i x same ∙ sym (counts m (neighbour n i (other side)) x back)
      | inr differ ↦
          let apart : m ≢ neighbour n i (other side) = λ e. differ (ap (λ k. neighbour n k side) e ∙ from_other n i side there) in
          counts_not (neighbour n m side) i x differ ∙ sym (counts_not m (neighbour n i (other side)) x apart)
    ]

-- a receipt is one packet taken from its side
pub one_taken : (i : ℕ) (side : Side) → ◌≡◌ {A = ℕ} (cond (i == i) (cond (same_side side side) 1 0) 0) 1
one_taken i Left = counts i i 1 refl
one_taken i Right = counts i i 1 refl

pub is_one : (n : ℕ) → (n == 1) ≡ true → n ≡ 1
is_one n e = grind (arith, nat_tests)

pub isnt_one : (n : ℕ) → (n == 1) ≡ false → n ≢ 1
isnt_one n e = λ is. grind (arith, nat_tests)

pub same_side_self : (side : Side) → same_side side side ≡ true
same_side_self Left = refl
same_side_self Right = refl

pub not_both : {A : Type 0} (b : Bool) → b ≡ false → b ≡ true → A
not_both true e h = absurd (cc)
not_both false e h = absurd (cc)

-- a receipt is from one side or the other
pub counts_side : (j i : ℕ) (side : Side) → cond (j == i) (cond (same_side Left side) 1 0) 0 + cond (j == i) (cond (same_side Right side) 1 0) 0 ≡ cond (j == i) 1 0
counts_side j i Left = grind (arith, nat_tests)
counts_side j i Right = grind (arith, nat_tests)
