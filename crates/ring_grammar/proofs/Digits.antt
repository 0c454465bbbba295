-- Numbers read by their digits.
use Rattle.std.proofs.Common.{◌≡◌, ◌+◌, ◌-◌, ◌*◌, ◌<◌, ◌≤◌, ◌^◌, ℕ, zero, suc, List, length, take, get_or, sym, ◌∙◌, ap, arith, decimal, below_more}
use Rattle.std.specs.Int.{IsInRange}
use Rattle.std.specs.Str.Parse.{digits_value}
use Rattle.std.proofs.lemmas.Fmt.{decimal-digits_value, decimal_digit, decimal_nonempty, digits_decimal, digits_value-decimal, first_decimal, length-decimal-le}
use Rattle.std.proofs.lemmas.Int.Digits.{digits_value_more}
use Rattle.std.proofs.lemmas.List.{get_or-take, length-take-le, take_all}
use Rattle.std.proofs.lemmas.Str.{digit_value_digit}
use Rattle.std.proofs.lemmas.Str.Parse.{IsNumeralModel, digits_value_short, numerals_by_value, tells_by_index}
use Rattle.ring_grammar.specs.private.Reading.{IsShortNumber}

-- this many first bytes of a text are digits
abbrev pub AreDigits : List ℕ → ℕ → Type 0
AreDigits text end = (i : ℕ) → i < end → IsInRange 48 57 (get_or text i 0)

numerals : IsNumeralModel (λ ds. AreDigits ds (length ds)) (digits_value 10)
numerals = numerals_by_value (λ ds. AreDigits ds (length ds)) tells_by_index

-- The number read from the first bytes of a text.
pub record Reading (text : List ℕ) (end read : ℕ) : Type 0 where
  pub digits : AreDigits text end
  pub value : read ≡ digits_value 10 (take end text)

-- one digit more
pub reading_more : (text : List ℕ) (end read : ℕ) → end < length text → 48 ≤ get_or text end 0 → get_or text end 0 ≤ 57 → Reading text end read → Reading text (end + 1) (read * 10 + (get_or text end 0 - 48))
reading_more text end read within low high before =
    let digit = digit_value_digit (get_or text end 0) (low, high) in
    record {
      digits = below_more (λ i. IsInRange 48 57 (get_or text i 0)) end before.digits (low, high);
      value = let step = digits_value_more 10 text end within in omega (arith, before.value);
    }

-- the bytes that were read, as a text of their own
front_digits : (text : List ℕ) (end : ℕ) → AreDigits text end → end ≤ length text → AreDigits (take end text) (length (take end text))
front_digits text end digits within = λ i below.
    let inside : i < end = omega (arith, length-take-le end text within) in
    rw (get_or-take end text i 0 inside) (digits i inside)

-- ten digits are below 10000000000
pub reading_small : (text : List ℕ) (end read : ℕ) → end ≤ length text → end ≤ 10 → Reading text end read → read < 10000000000
reading_small text end read within few reading =
    let below = digits_value_short numerals (take end text) 10 (front_digits text end reading.digits within) (omega (arith, length-take-le end text within)) in
    omega (arith, reading.value, below)

-- digits with no leading zero are what is printed of their number
pub reading_printed : (text : List ℕ) (read : ℕ) → 0 < length text → (get_or text 0 0 ≡ 48 → length text ≡ 1) → read < 2 ^ 32 → Reading text (length text) read → text ≡ decimal read
reading_printed text read some lead short reading =
    let whole : take (length text) text ≡ text = take_all (length text) text (omega arith) in
    let value : read ≡ digits_value 10 text = reading.value ∙ ap (digits_value 10) whole in
    let printed = decimal-digits_value numerals text reading.digits some lead (omega (arith, value)) in
    sym printed ∙ ap decimal (sym value)

-- what is printed of a number is its digits
pub printed_digits : (text : List ℕ) (n : ℕ) → IsShortNumber n → text ≡ decimal n → AreDigits text (length text)
printed_digits text n short printed = rw printed (digits_decimal numerals n (omega arith))

-- this many, and at most ten
pub printed_length : (text : List ℕ) (n : ℕ) → IsShortNumber n → text ≡ decimal n → (0 < length text) × (length text ≤ 10)
printed_length text n short printed = rw printed (decimal_nonempty n (omega arith), length-decimal-le 10 n (omega arith) (omega arith) (omega arith))

-- the first is 0 if there is no other
pub printed_first : (text : List ℕ) (n : ℕ) → IsShortNumber n → text ≡ decimal n → get_or text 0 0 ≡ 48 → length text ≡ 1
printed_first text zero short printed first = ap length printed ∙ ap length (decimal_digit 0 (omega arith))
printed_first text (suc n) short printed first =
    let above = first_decimal (suc n) (omega arith) (omega arith) in
    absurd (omega (arith, above, ap (λ (l : List ℕ). get_or l 0 0) printed))

-- and their value is the number
pub printed_value : (text : List ℕ) (n read : ℕ) → IsShortNumber n → text ≡ decimal n → Reading text (length text) read → read ≡ n
printed_value text n read short printed reading =
    reading.value ∙ ap (digits_value 10) (take_all (length text) text (omega arith) ∙ printed) ∙ digits_value-decimal numerals n (omega arith)
