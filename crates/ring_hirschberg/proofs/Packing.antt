-- Few members come to a phase: any two that do are far apart, so a ring has room for few.
use Rattle.std.proofs.Common.{◌≡◌, ◌+◌, ◌-◌, ◌*◌, ◌^◌, ◌<◌, ◌≤◌, inl, inr, ℕ, zero, suc, cond, nat_le, List, length, Some, slice_get, get_or, refl, sym, ap, ◌∙◌, arith}
use Rattle.std.proofs.lemmas.Bool.{cases_lt}
use Rattle.std.proofs.lemmas.Bool.Decides.{nat_tests}
use Rattle.std.proofs.lemmas.Option.{slice_get-get_or}
use Rattle.ring_id.specs.declared.side.Side.{Side}
use Rattle.ring_id.specs.declared.side.Side.TheVariants.{Left, Right}
use Rattle.ring_id.specs.Sides.{other}
use Rattle.ring_roster.specs.Ring.{IsRing, neighbour}
use Rattle.ring_election.specs.Families.{IsSound}
use Rattle.ring_election.proofs.Rings.{neighbour-neighbour}
use Rattle.ring_election.proofs.Sums.{sum_to, sum_to-constant, sum_to-less, sum_to-once, sum_to-same, sum_to-swap}
use Rattle.ring_hirschberg.specs.declared.hirschberg.HirschbergMsg.{HirschbergMsg}
use Rattle.ring_hirschberg.specs.Hirschberg.{ceil_log2, hirschberg_table}
use Rattle.ring_hirschberg.specs.laws.Homecomings.{other_member, phase_small}
use Rattle.ring_hirschberg.specs.laws.Logarithm.{ceil_log2-least}
use Rattle.ring_hirschberg.specs.laws.Walks.{walk, walk_below, walk_first}
use Rattle.ring_hirschberg.specs.Work.{phase_at, reaching}
use Rattle.ring_hirschberg.proofs.Apart.{stays_low}
use Rattle.ring_hirschberg.proofs.Sums.{sum_to-walk}

-- one walk after another to the same side
walk_add : (n i : ℕ) (side : Side) (a b : ℕ) → walk n (walk n i side a) side b ≡ walk n i side (a + b)
walk_add n i side a zero = ap (walk n i side) (let e : a ≡ a + 0 = omega arith in e)
walk_add n i side a (suc b) = ap (λ p. neighbour n p side) (walk_add n i side a b) ∙ ap (walk n i side) (let e : suc (a + b) ≡ a + suc b = omega arith in e)

-- as many steps back lead home
walk_back : (n i : ℕ) (side : Side) (steps : ℕ) → i < n → walk n (walk n i side steps) (other side) steps ≡ i
walk_back n i side zero below = refl
walk_back n i side (suc steps) below =
    sym (walk_first n (walk n i side (suc steps)) (other side) steps)
    ∙ (ap (λ p. walk n p (other side) steps) (neighbour-neighbour n (walk n i side steps) side (walk_below n i side steps below)) ∙ walk_back n i side steps below)

-- in a sound family
module _ (ring : List ℕ) (is : IsRing ring) (family : ℕ → List (Side × HirschbergMsg)) (sound : IsSound hirschberg_table ring family) where
  -- two positions at most 2 ^ k apart have not both come to phase k + 1
  not_both : (k i left : ℕ) → i < length ring → suc left < length ring → suc left ≤ 2 ^ k → k < phase_at ring family i → k < phase_at ring family (walk (length ring) i Left (suc left)) → ⊥
  not_both k i left below few near high far =
      let j : ℕ = walk (length ring) i Left (suc left) in
      let under : j < length ring = walk_below (length ring) i Left (suc left) below in
      let v : ℕ = get_or ring i 0 in
      let w : ℕ = get_or ring j 0 in
      let here : slice_get ring i ≡ Some v = slice_get-get_or ring i 0 below in
      let there : slice_get ring j ≡ Some w = slice_get-get_or ring j 0 under in
      let back : slice_get ring (walk (length ring) j Right (suc left)) ≡ Some v = ap (slice_get ring) (walk_back (length ring) i Left (suc left) below) ∙ here in
      elim (cases_lt v w) [
        | inl less ↦ (let low = stays_low ring is family sound i v here Left k left w few there less near in absurd (omega arith))
        | inr no_less ↦ elim (cases_lt w v) [
          | inl less ↦ (let low = stays_low ring is family sound j w there Right k left v few back less near in absurd (omega arith))
          | inr no_more ↦ absurd (other_member ring is i v here Left (suc left) w (omega arith) few there (omega arith))
        ]
      ]

  -- whether the member at a position has come to phase k + 1
  abbrev has_come : ℕ → ℕ → ℕ
  has_come k i = cond (nat_le (suc k) (phase_at ring family i)) 1 0

  come : (k i : ℕ) → 1 ≤ has_come k i → k < phase_at ring family i
  come k i some = grind (arith, nat_tests)

  has_come-small : (k i : ℕ) → has_come k i ≤ 1
  has_come-small k i = grind (arith, nat_tests)

  -- of 2 ^ k + 1 positions in a row at most one has
  one_of : (k i : ℕ) → i < length ring → 2 ^ k < length ring → sum_to (λ d. has_come k (walk (length ring) i Left d)) (suc (2 ^ k)) ≤ 1
  one_of k i below wide =
      sum_to-once (λ d. has_come k (walk (length ring) i Left d)) (suc (2 ^ k)) (λ d. has_come-small k (walk (length ring) i Left d))
      (λ a b less within first second.
      let left : ℕ = b - a - 1 in
      let end : walk (length ring) (walk (length ring) i Left a) Left (suc left) ≡ walk (length ring) i Left b =
      walk_add (length ring) i Left a (suc left) ∙ ap (walk (length ring) i Left) (let e : a + suc left ≡ b = omega arith in e) in
      let high : k < phase_at ring family (walk (length ring) (walk (length ring) i Left a) Left (suc left)) = rw end (come k (walk (length ring) i Left b) second) in
      not_both k (walk (length ring) i Left a) left (walk_below (length ring) i Left a below) (omega arith) (omega arith) (come k (walk (length ring) i Left a) first) high)

  -- how many have, as a sum
  pub reaching-sum : (l n : ℕ) → reaching ring family l n ≡ sum_to (λ i. cond (nat_le l (phase_at ring family i)) 1 0) n
  reaching-sum l zero = refl
  reaching-sum l (suc n) = let before = reaching-sum l n in omega arith

  -- no member has come beyond the logarithm
  pub phase_few : (i : ℕ) → i < length ring → phase_at ring family i ≤ ceil_log2 (length ring)
  phase_few i below = phase_small ring is i (get_or ring i 0) (slice_get-get_or ring i 0 below) Left family sound

  -- of n members at most n / (2 ^ k + 1) come to phase k + 1
  pub phases_rare : (k : ℕ) → reaching ring family (suc k) (length ring) * (2 ^ k + 1) ≤ length ring
  phases_rare k =
      let n : ℕ = length ring in
      let count : reaching ring family (suc k) n ≡ sum_to (has_come k) n = reaching-sum (suc k) n in
      elim (cases_lt (2 ^ k) n) [
        | inl wide ↦ (
            let swapped = sum_to-swap (λ d i. has_come k (walk n i Left d)) (suc (2 ^ k)) n in
            let each = sum_to-same (λ d. sum_to (λ i. has_come k (walk n i Left d)) n) (λ d. sum_to (has_come k) n) (suc (2 ^ k)) (λ d inside. sum_to-walk (has_come k) n Left d) in
            let times = sum_to-constant (sum_to (has_come k) n) (suc (2 ^ k)) in
            let few = sum_to-less (λ i. sum_to (λ d. has_come k (walk n i Left d)) (suc (2 ^ k))) (λ i. 1) n (λ i below. one_of k i below wide) in
            let ones = sum_to-constant 1 n in
            let product : sum_to (has_come k) n * (2 ^ k + 1) ≡ suc (2 ^ k) * sum_to (has_come k) n = omega arith in
            let same : reaching ring family (suc k) n * (2 ^ k + 1) ≡ sum_to (has_come k) n * (2 ^ k + 1) = ap (λ c. c * (2 ^ k + 1)) count in
            omega arith)
        | inr narrow ↦ (
            let low : ceil_log2 n ≤ k = ceil_log2-least n k narrow in
            let none = sum_to-less (has_come k) (λ i. 0) n (λ i below. (let small = phase_few i below in grind (arith, nat_tests))) in
            let zeros = sum_to-constant 0 n in
            let nobody : reaching ring family (suc k) n ≡ 0 = omega arith in
            let same : reaching ring family (suc k) n * (2 ^ k + 1) ≡ 0 * (2 ^ k + 1) = ap (λ c. c * (2 ^ k + 1)) nobody in
            omega arith)
      ]
