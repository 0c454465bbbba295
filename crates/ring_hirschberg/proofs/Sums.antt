-- Sums along a walk round the ring, and of the elements of a list.
use Rattle.std.proofs.Common.{◌≡◌, ◌*◌, ◌<◌, ℕ, zero, suc, List, [], ◌∷◌, length, get_or, refl, sym, ap, ◌∙◌, arith}
use Rattle.ring_id.specs.declared.side.Side.{Side}
use Rattle.ring_roster.specs.Ring.{neighbour}
use Rattle.ring_election.proofs.Sums.{sum_to, sum_to-constant, sum_to-first, sum_to-round, sum_to-same, sum_to-swap}
use Rattle.ring_hirschberg.specs.laws.Walks.{walk, walk_below, walk_first, walk_home, walk_reaches}
use Rattle.ring_hirschberg.specs.laws.Weights.{weight}

-- over the positions after some steps from each, it is the same
pub sum_to-walk : (f : ℕ → ℕ) (n : ℕ) (side : Side) (steps : ℕ) → sum_to (λ i. f (walk n i side steps)) n ≡ sum_to f n
sum_to-walk f n side zero = refl
sum_to-walk f n side (suc steps) = sum_to-walk (λ i. f (neighbour n i side)) n side steps ∙ sum_to-round f n side

-- along a whole walk the beginning doesn't matter: it may be one step later
walk_sum-next : (f : ℕ → ℕ) (n p : ℕ) (side : Side) → p < n → sum_to (λ d. f (walk n (neighbour n p side) side d)) n ≡ sum_to (λ d. f (walk n p side d)) n
walk_sum-next f n p side below =
    let later = sum_to-same (λ d. f (walk n (neighbour n p side) side d)) (λ d. f (walk n p side (suc d))) n (λ d inside. ap f (walk_first n p side d)) in
    let first = sum_to-first (λ d. f (walk n p side d)) n in
    let home : f (walk n p side n) ≡ f p = ap f (walk_home n p side below) in
    omega arith

-- it may begin anywhere
walk_sum-begin : (f : ℕ → ℕ) (n p : ℕ) (side : Side) (steps : ℕ) → p < n → sum_to (λ d. f (walk n (walk n p side steps) side d)) n ≡ sum_to (λ d. f (walk n p side d)) n
walk_sum-begin f n p side zero below = refl
walk_sum-begin f n p side (suc steps) below = walk_sum-next f n (walk n p side steps) side (walk_below n p side steps below) ∙ walk_sum-begin f n p side steps below

-- a common factor that isn't none may be left out
cancelled : (n a b : ℕ) → 0 < n → n * a ≡ n * b → a ≡ b
cancelled n a b some same = grind arith

-- along a whole walk, the sum is that over all positions
pub walk_sum : (f : ℕ → ℕ) (n p : ℕ) (side : Side) → p < n → sum_to (λ d. f (walk n p side d)) n ≡ sum_to f n
walk_sum f n p side below =
    let each = sum_to-same (λ i. sum_to (λ d. f (walk n i side d)) n) (λ i. sum_to (λ d. f (walk n p side d)) n) n
    (λ i inside. let reached = walk_reaches n p side i below inside in
    ap (λ j. sum_to (λ d. f (walk n j side d)) n) (sym reached.2) ∙ walk_sum-begin f n p side reached.0 below) in
    let times = sum_to-constant (sum_to (λ d. f (walk n p side d)) n) n in
    let swapped = sum_to-swap (λ i d. f (walk n i side d)) n n in
    let over = sum_to-same (λ d. sum_to (λ i. f (walk n i side d)) n) (λ d. sum_to f n) n (λ d inside. sum_to-walk f n side d) in
    let whole = sum_to-constant (sum_to f n) n in
    cancelled n (sum_to (λ d. f (walk n p side d)) n) (sum_to f n) (omega arith) (sym times ∙ sym each ∙ swapped ∙ over ∙ whole)

-- the elements of a list, weighed
pub weight-sum : (f : ℕ → ℕ) (xs : List ℕ) → weight f xs ≡ sum_to (λ i. f (get_or xs i 0)) (length xs)
weight-sum f [] = refl
weight-sum f (x ∷ xs) =
    let first = sum_to-first (λ i. f (get_or (x ∷ xs) i 0)) (length xs) in
    let rest = weight-sum f xs in
    omega arith
