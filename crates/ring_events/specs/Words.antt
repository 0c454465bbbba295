-- Numbers in two words: the quotient by 2^64, and the remainder.
use Rattle.std.specs.Prelude.{ℕ, ◌+◌, ◌*◌, ◌/◌, ◌%◌}

-- the number of these two words
abbrev pub words : ℕ → ℕ → ℕ
words high low = high * 18446744073709551616 + low

-- the high word of a number
abbrev pub high_of : ℕ → ℕ
high_of count = count / 18446744073709551616

-- the low word of a number
abbrev pub low_of : ℕ → ℕ
low_of count = count % 18446744073709551616
