-- The check of the lines of a journal: the CRC-32 of all changes so far, a byte at a time. No
-- theorem rests on its value: it finds damage.
use Rattle.std.specs.Prelude.{◌+◌, ◌-◌, ◌/◌, ◌%◌, ◌++◌, ℕ, List, [], ◌∷◌, fold, slice_index, if◌then◌else◌, nat_lt, codes}
use Rattle.std.specs.Int.Bits.{bit_xor}

-- the effect of the low half of a byte on a check
abbrev pub check_low : List ℕ
check_low =
    0 ∷ 1996959894 ∷ 3993919788 ∷ 2567524794 ∷
    124634137 ∷ 1886057615 ∷ 3915621685 ∷ 2657392035 ∷
    249268274 ∷ 2044508324 ∷ 3772115230 ∷ 2547177864 ∷
    162941995 ∷ 2125561021 ∷ 3887607047 ∷ 2428444049 ∷ []

-- the effect of the high half of a byte
abbrev pub check_high : List ℕ
check_high =
    0 ∷ 498536548 ∷ 997073096 ∷ 651767980 ∷
    1994146192 ∷ 1802195444 ∷ 1303535960 ∷ 1342533948 ∷
    3988292384 ∷ 4027552580 ∷ 3604390888 ∷ 3412177804 ∷
    2607071920 ∷ 2262029012 ∷ 2685067896 ∷ 3183342108 ∷ []

-- the check of no bytes
abbrev pub first_check : ℕ
first_check = 4294967295

-- the check after one byte, given the check before it and the byte mixed by exclusive or
abbrev pub check_mixed : ℕ → ℕ
check_mixed mixed =
    bit_xor (bit_xor (mixed / 256) (slice_index check_low (mixed % 16)))
    (slice_index check_high (mixed / 16 % 16))

-- the check after one byte
abbrev pub check_byte : ℕ → ℕ → ℕ
check_byte rest byte = check_mixed (bit_xor rest byte)

-- the check after some bytes
abbrev pub check_after : ℕ → List ℕ → ℕ
check_after check bytes = fold check_byte check bytes

-- the lowercase hexadecimal digit of a number below 16
abbrev pub hex_digit : ℕ → ℕ
hex_digit n = if nat_lt n 10 then 48 + n else 87 + n

-- the eight hexadecimal digits of a number of 32 bits, the highest first
abbrev pub hex_word : ℕ → List ℕ
hex_word n =
    hex_digit (n / 268435456) ∷ hex_digit (n / 16777216 % 16) ∷
    hex_digit (n / 1048576 % 16) ∷ hex_digit (n / 65536 % 16) ∷
    hex_digit (n / 4096 % 16) ∷ hex_digit (n / 256 % 16) ∷
    hex_digit (n / 16 % 16) ∷ hex_digit (n % 16) ∷ []

-- the mark at the end of a line with this check
abbrev pub check_mark : ℕ → List ℕ
check_mark check = codes " #" ++ hex_word (4294967295 - check)
