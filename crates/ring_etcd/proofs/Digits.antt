-- The digits of a number in a key.
use Rattle.std.proofs.Common.{◌≡◌, ℕ, [], ◌++◌, ◌-◌, ◌^◌, ◌∙◌, length, ap, append-nil, arith}
use Rattle.std.specs.Prelude.{false, replicate}
use Rattle.std.specs.Fmt.{char_count, decimal, format_spec, padded_integral}
use Rattle.ring_etcd.specs.Keys.{twenty_digits}

-- what `{:020}` writes of a number
pub padded_is : (n : ℕ) → padded_integral (format_spec 32 0 4 20 (2 ^ 64 - 1)) false [] (decimal n) ≡ twenty_digits n
unfolding padded_integral char_count
padded_is n =
    let none : 20 - length (decimal n) - 0 - 0 ≡ 20 - length (decimal n) = omega arith in
    ap (λ k. replicate k 48 ++ (decimal n ++ [])) none
    ∙ ap (λ digits. replicate (20 - length (decimal n)) 48 ++ digits) (append-nil (decimal n))
