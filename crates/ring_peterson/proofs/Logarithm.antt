-- The logarithm rounded down: the greatest exponent whose power of two is not above the number.
use Rattle.std.specs.Prelude.{◌≡◌, ◌^◌, ◌<◌, ◌≤◌, ℕ, zero, suc, true, false, cond, nat_lt}
use Rattle.std.proofs.Common.{inl, inr, refl, arith, pow_mono}
use Rattle.std.proofs.lemmas.Bool.{cases_lt}
use Rattle.std.proofs.lemmas.Bool.Decides.{nat_tests}
use Rattle.ring_peterson.specs.Rounds.{LogarithmIsGreatest, floor_log2, log2_up_to}
use Rattle.ring_peterson.specs.laws.Bounded.{floor_log2-above}

-- its power is not above the number
log2_up_to-within : (limit n : ℕ) → 1 ≤ n → 2 ^ log2_up_to limit n ≤ n
log2_up_to-within zero n some = some
log2_up_to-within (suc limit) n some =
    elim (nat_lt n (2 ^ suc limit)) as (λ b. nat_lt n (2 ^ suc limit) ≡ b → 2 ^ cond b (log2_up_to limit n) (suc limit) ≤ n) [
      | true ↦ λ _. log2_up_to-within limit n some
      | false ↦ λ reached. grind (arith, nat_tests)
    ] refl

-- the smaller power has the smaller exponent
exponent_below : (e f : ℕ) → 2 ^ e < 2 ^ f → e < f
exponent_below e f less =
    elim (cases_lt e f) [
      | inl lt ↦ lt
      | inr le ↦ absurd (let more : 2 ^ f ≤ 2 ^ e = pow_mono le in omega arith)
    ]

pub logarithm_is_greatest : LogarithmIsGreatest
logarithm_is_greatest n some = (
  log2_up_to-within n n some,
  λ e within.
      let above = floor_log2-above n in
      let below : e < suc (floor_log2 n) = exponent_below e (suc (floor_log2 n)) (omega arith) in
      omega arith,
)
