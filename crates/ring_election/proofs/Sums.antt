-- Sums over positions: in any order, round the ring, and of what is there at most once.
use Rattle.std.proofs.Common.{◌≡◌, ◌+◌, ◌-◌, ◌*◌, ◌<◌, ◌≤◌, ℕ, zero, suc, List, length, suc-mul, refl, sym, ap, ◌∙◌, arith}
use Rattle.std.proofs.lemmas.Bool.Decides.{nat_tests}
use Rattle.ring_id.specs.declared.side.Side.{Side}
use Rattle.ring_id.specs.declared.side.Side.TheVariants.{Left, Right}
use Rattle.ring_roster.specs.Ring.{left_of, neighbour, right_of}
use Rattle.ring_election.specs.Families.{taken_in_all}

-- the sum over the numbers below n
abbrev pub sum_to : (ℕ → ℕ) → ℕ → ℕ
sum_to f zero = 0
sum_to f (suc n) = sum_to f n + f n

-- if each term is no more, neither is the sum
pub sum_to-less : (f g : ℕ → ℕ) (n : ℕ) → ((i : ℕ) → i < n → f i ≤ g i) → sum_to f n ≤ sum_to g n
sum_to-less f g zero less = omega arith
sum_to-less f g (suc n) less =
    let before = sum_to-less f g n (λ i below. less i (omega arith)) in
    let here = less n (omega arith) in
    omega arith

-- if each term is the same, so is the sum
pub sum_to-same : (f g : ℕ → ℕ) (n : ℕ) → ((i : ℕ) → i < n → f i ≡ g i) → sum_to f n ≡ sum_to g n
sum_to-same f g zero same = refl
sum_to-same f g (suc n) same =
    let before = sum_to-same f g n (λ i below. same i (omega arith)) in
    let here = same n (omega arith) in
    omega arith

-- the sum of sums of two
pub sum_to-plus : (f g : ℕ → ℕ) (n : ℕ) → sum_to (λ i. f i + g i) n ≡ sum_to f n + sum_to g n
sum_to-plus f g zero = refl
sum_to-plus f g (suc n) = let before = sum_to-plus f g n in omega arith

-- n times the same
pub sum_to-constant : (c n : ℕ) → sum_to (λ i. c) n ≡ n * c
sum_to-constant c zero = omega arith
sum_to-constant c (suc n) = let before = sum_to-constant c n in omega (arith, suc-mul n c)

-- a common factor
pub sum_to-times : (c : ℕ) (f : ℕ → ℕ) (n : ℕ) → sum_to (λ i. c * f i) n ≡ c * sum_to f n
sum_to-times c f zero = omega arith
sum_to-times c f (suc n) = let before = sum_to-times c f n in grind arith

-- a sum whose first term is apart
pub sum_to-first : (f : ℕ → ℕ) (n : ℕ) → sum_to f (suc n) ≡ f 0 + sum_to (λ i. f (suc i)) n
sum_to-first f zero = omega arith
sum_to-first f (suc n) = let before = sum_to-first f n in omega arith

-- two sums in either order
pub sum_to-swap : (f : ℕ → ℕ → ℕ) (m n : ℕ) → sum_to (λ i. sum_to (f i) n) m ≡ sum_to (λ j. sum_to (λ i. f i j) m) n
sum_to-swap f zero n = sym (sum_to-constant 0 n ∙ omega arith)
sum_to-swap f (suc m) n =
    let before = sum_to-swap f m n in
    let split = sum_to-plus (λ j. sum_to (λ i. f i j) m) (f m) n in
    omega arith

-- if no two terms are there and each is at most 1, their sum is at most 1
pub sum_to-once : (f : ℕ → ℕ) (n : ℕ) → ((i : ℕ) → f i ≤ 1) → ((i j : ℕ) → i < j → j < n → 1 ≤ f i → 1 ≤ f j → ⊥) → sum_to f n ≤ 1
sum_to-once f zero small apart = omega arith
sum_to-once f (suc n) small apart = last (f n) refl (sum_to-once f n small (λ i j less below. apart i j less (omega arith)))
  where
    last : (v : ℕ) → f n ≡ v → sum_to f n ≤ 1 → sum_to f n + f n ≤ 1
    last zero none before = omega arith
    last (suc v) there before =
        let none = sum_to-less f (λ i. 0) n (λ i below. nothing i below (f i) refl) in
        let zero_sum = sum_to-constant 0 n in
        let one = small n in
        omega arith
      where
        nothing : (i : ℕ) → i < n → (w : ℕ) → f i ≡ w → f i ≤ 0
        nothing i below zero e = omega arith
        nothing i below (suc w) e = absurd (apart i n below (omega arith) (omega arith) (omega arith))

-- ---- Round the ring

-- over the left neighbours of the first positions: the last, and all but one of these
sum_to-left : (f : ℕ → ℕ) (n k : ℕ) → k < n → sum_to (λ i. f (left_of n i)) (suc k) ≡ f (n - 1) + sum_to f k
sum_to-left f n zero h = omega arith
sum_to-left f n (suc k) h =
    let before = sum_to-left f n k (omega arith) in
    let left : left_of n (suc k) ≡ k = grind (arith, nat_tests) in
    let same : f (left_of n (suc k)) ≡ f k = ap f left in
    omega arith

-- over all neighbours to one side, the sum is that over all positions
pub sum_to-round : (f : ℕ → ℕ) (n : ℕ) (side : Side) → sum_to (λ i. f (neighbour n i side)) n ≡ sum_to f n
sum_to-round f zero side = refl
sum_to-round f (suc n) Left =
    let all = sum_to-left f (suc n) n (omega arith) in
    let last : suc n - 1 ≡ n = omega arith in
    let same : f (suc n - 1) ≡ f n = ap f last in
    omega arith
sum_to-round f (suc n) Right =
    let rest = sum_to-same (λ i. f (right_of (suc n) i)) (λ i. f (suc i)) n (λ i below. let next : right_of (suc n) i ≡ suc i = grind (arith, nat_tests) in ap f next) in
    let last : right_of (suc n) n ≡ 0 = grind (arith, nat_tests) in
    let home : f (right_of (suc n) n) ≡ f 0 = ap f last in
    let first = sum_to-first f n in
    omega arith

-- the messages that the positions took, as a sum
pub taken-sum : {M : Type 0} (n : ℕ) (family : ℕ → List (Side × M)) → taken_in_all n family ≡ sum_to (λ i. length (family i)) n
taken-sum zero family = refl
taken-sum (suc n) family = let before = taken-sum n family in omega arith
