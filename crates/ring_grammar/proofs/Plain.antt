-- Words in which there is no space and no LF, joined by spaces and cut again.
use Rattle.std.proofs.Common.{◌≡◌, ◌<◌, ◌^◌, ◌&&◌, ℕ, Bool, true, false, not, ◌==◌, List, [], ◌∷◌, get_or, ◌∙◌, ap, arith, refl, All, decimal}
use Rattle.std.specs.Int.{IsInRange}
use Rattle.std.specs.List.{list_all, list_any}
use Rattle.std.proofs.lemmas.Bool.{and_from, and_parts, ne_eqb}
use Rattle.std.proofs.lemmas.Fmt.{decimal_is_IsNumeral_wide}
use Rattle.std.proofs.lemmas.List.Folds.{list_any-append}
use Rattle.std.proofs.lemmas.List.Elements.{All-from_get_or, All-weaker}
use Rattle.std.proofs.lemmas.List.Splits.{slice_split_at, slice_split_none}
use Rattle.std.proofs.lemmas.List.Sums.{AllPass-from_list_all, list_all-from_AllPass}
use Rattle.std.proofs.lemmas.Str.Parse.{digit_at}
use Rattle.ring_id.specs.GroupName.{IsName, is_name_byte}
use Rattle.ring_grammar.specs.private.Reading.{words_in}
use Rattle.ring_grammar.specs.Spelling.{line_of}

-- whether a byte is no space and no LF
abbrev pub is_inner : ℕ → Bool
is_inner b = not (b == 32) && not (b == 10)

-- whether there is no space and no LF in a word
abbrev pub is_plain : List ℕ → Bool
is_plain word = list_all is_inner word

-- whether there is none in any of these words
abbrev pub all_plain : List (List ℕ) → Bool
all_plain words = list_all is_plain words

-- a test that fails
false_from_not : (b : Bool) → not b ≡ true → b ≡ false
false_from_not true h = cc
false_from_not false h = refl

-- such a byte is no space
no_space : (b : ℕ) → is_inner b ≡ true → (b == 32) ≡ false
no_space b inner = false_from_not (b == 32) (and_parts (not (b == 32)) (not (b == 10)) inner).0

-- and no LF
no_lf : (b : ℕ) → is_inner b ≡ true → (b == 10) ≡ false
no_lf b inner = false_from_not (b == 10) (and_parts (not (b == 32)) (not (b == 10)) inner).1

-- no byte of a plain word is a space
no_space_in : (word : List ℕ) → is_plain word ≡ true → All (λ b. (b == 32) ≡ false) word
no_space_in word plain = All-weaker (λ b. is_inner b ≡ true) (λ b. (b == 32) ≡ false) no_space word (AllPass-from_list_all is_inner word plain)

-- words with no space are the words of the line that they are joined to
pub words_in-line_of : (word : List ℕ) (words : List (List ℕ)) → all_plain (word ∷ words) ≡ true → words_in (line_of (word ∷ words)) ≡ word ∷ words
words_in-line_of word [] plain = slice_split_none (λ b. b == 32) word (no_space_in word (and_parts (is_plain word) true plain).0)
words_in-line_of word (next ∷ words) plain =
    let parts = and_parts (is_plain word) (all_plain (next ∷ words)) plain in
    slice_split_at (λ b. b == 32) word 32 (line_of (next ∷ words)) (no_space_in word parts.0) refl
    ∙ ap (λ (l : List (List ℕ)). word ∷ l) (words_in-line_of next words parts.1)

-- a byte other than these
inner_byte : (b : ℕ) → (b ≡ 32 → ⊥) → (b ≡ 10 → ⊥) → is_inner b ≡ true
inner_byte b space lf = and_from (not (b == 32)) (not (b == 10)) (ap not (ne_eqb b 32 space)) (ap not (ne_eqb b 10 lf))

-- a byte of a name is inner
inner-name_byte : (b : ℕ) → is_name_byte b ≡ true → is_inner b ≡ true
inner-name_byte b legal =
    inner_byte b (λ space. let bad : is_name_byte 32 ≡ true = rw space at legal in cc) (λ lf. let bad : is_name_byte 10 ≡ true = rw lf at legal in cc)

-- and so is a digit
inner-digit : (b : ℕ) → IsInRange 48 57 b → is_inner b ≡ true
inner-digit b digit = inner_byte b (λ space. absurd (omega arith)) (λ lf. absurd (omega arith))

-- a name is plain
pub plain-name : (name : List ℕ) → IsName name → is_plain name ≡ true
plain-name name legal = list_all-from_AllPass is_inner name (All-weaker (λ b. is_name_byte b ≡ true) (λ b. is_inner b ≡ true) inner-name_byte name (AllPass-from_list_all is_name_byte name legal.each))

-- and so is a number
pub plain-decimal : (n : ℕ) → n < 10 ^ 64 → is_plain (decimal n) ≡ true
plain-decimal n short =
    let digits = (decimal_is_IsNumeral_wide n short).0.1 in
    list_all-from_AllPass is_inner (decimal n) (All-from_get_or (λ b. is_inner b ≡ true) (decimal n) 0 (λ i below. inner-digit (get_or (decimal n) i 0) (digit_at (decimal n) i digits below)))

-- a plain word has no LF
no_lf_in : (word : List ℕ) → is_plain word ≡ true → list_any (λ b. b == 10) word ≡ false
no_lf_in [] plain = refl
no_lf_in (b ∷ word) plain =
    let parts = and_parts (is_inner b) (is_plain word) plain in
    rw (no_lf b parts.0) (no_lf_in word parts.1)

-- nor has a line of plain words
pub no_lf-line_of : (words : List (List ℕ)) → all_plain words ≡ true → list_any (λ b. b == 10) (line_of words) ≡ false
no_lf-line_of [] plain = refl
no_lf-line_of (word ∷ []) plain = no_lf_in word (and_parts (is_plain word) true plain).0
no_lf-line_of (word ∷ next ∷ words) plain =
    let parts = and_parts (is_plain word) (all_plain (next ∷ words)) plain in
    let first = no_lf_in word parts.0 in
    let rest = no_lf-line_of (next ∷ words) parts.1 in
    rw (list_any-append, first) rest
