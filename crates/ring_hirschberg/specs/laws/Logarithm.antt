-- The logarithm rounded up: the least exponent whose power of two is not below the number.
use Rattle.std.specs.Prelude.{◌≡◌, ◌^◌, ◌<◌, ◌≤◌, ◌⊎◌, ℕ, zero, suc}
use Rattle.std.proofs.Common.{inl, inr, subst, sym, arith, pow_mono}
use Rattle.std.proofs.lemmas.Bool.{cases_lt}
use Rattle.std.proofs.lemmas.Bool.Decides.{nat_tests}
use Rattle.ring_hirschberg.specs.Hirschberg.{ceil_log2, least_power, raised}

-- the smaller power has the smaller exponent
pub below_from_powers : (i j : ℕ) → 2 ^ i < 2 ^ j → i < j
below_from_powers i j less =
    elim (cases_lt i j) [
      | inl lt ↦ lt
      | inr le ↦ absurd (let more : 2 ^ j ≤ 2 ^ i = pow_mono le in omega arith)
    ]

-- an exponent is raised if and only if its power does not reach n
raised_cases : (n e : ℕ) → ((2 ^ e < n) × (raised n e ≡ suc e)) ⊎ ((n ≤ 2 ^ e) × (raised n e ≡ e))
raised_cases n e = grind (arith, nat_tests)

raised-least : (n e l : ℕ) → n ≤ 2 ^ l → e ≤ l → raised n e ≤ l
raised-least n e l far least =
    elim (raised_cases n e) [
      | inl more ↦ let below : e < l = below_from_powers e l (omega (arith, more.0)) in omega (arith, more.1)
      | inr enough ↦ omega (arith, enough.1)
    ]

-- no exponent whose power reaches n is less
least_power-least : (n k l : ℕ) → n ≤ 2 ^ l → least_power n k ≤ l
least_power-least n zero l far = omega arith
least_power-least n (suc k) l far = raised-least n (least_power n k) l far (least_power-least n k l far)

raised-reaches : (n k e : ℕ) → (n ≤ 2 ^ e) ⊎ (e ≡ k) → (n ≤ 2 ^ raised n e) ⊎ (raised n e ≡ suc k)
raised-reaches n k e before = grind (arith, nat_tests)

-- its power reaches n, or it is the last that was tried
reaches_or_last : (n k : ℕ) → (n ≤ 2 ^ least_power n k) ⊎ (least_power n k ≡ k)
reaches_or_last n zero = inr (omega arith)
reaches_or_last n (suc k) = raised-reaches n k (least_power n k) (reaches_or_last n k)

-- n is below its own power of two
power_far : (n : ℕ) → n < 2 ^ n
power_far zero = omega arith
power_far (suc n) = omega (arith, power_far n)

-- its power reaches n
pub ceil_log2-reaches : (n : ℕ) → n ≤ 2 ^ ceil_log2 n
ceil_log2-reaches n =
    elim (reaches_or_last n n) [
      | inl far ↦ far
      | inr last ↦ subst (λ (e : ℕ). n ≤ 2 ^ e) (sym last) (omega (arith, power_far n))
    ]

-- no smaller exponent's does
pub ceil_log2-least : (n e : ℕ) → n ≤ 2 ^ e → ceil_log2 n ≤ e
ceil_log2-least n e far = least_power-least n n e far

-- a ring of at most 256 needs no phase beyond 8
pub ceil_log2-small : (n : ℕ) → n ≤ 256 → ceil_log2 n ≤ 8
ceil_log2-small n small = ceil_log2-least n 8 small
