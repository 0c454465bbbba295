-- Words in which there is no space, no LF and no zero, and the lines that they are joined to.
use Rattle.std.proofs.Common.{◌≡◌, ◌≢◌, ◌<◌, ◌^◌, ◌&&◌, ℕ, zero, suc, Bool, true, false, not, ◌==◌, List, [], ◌∷◌, get_or, ◌∙◌, ap, arith, refl, All, decimal}
use Rattle.std.specs.Int.{IsInRange}
use Rattle.std.specs.List.{list_all}
use Rattle.std.proofs.Math.Dec.{eqb-suc-zero}
use Rattle.std.proofs.lemmas.Bool.{and_from, and_parts, ne_eqb}
use Rattle.std.proofs.lemmas.Fmt.{decimal_is_IsNumeral}
use Rattle.std.proofs.lemmas.List.Folds.{list_all-append}
use Rattle.std.proofs.lemmas.List.Elements.{All-from_get_or, All-weaker}
use Rattle.std.proofs.lemmas.List.Splits.{slice_split_at, slice_split_none}
use Rattle.std.proofs.lemmas.List.Sums.{AllPass-from_list_all, list_all-from_AllPass}
use Rattle.std.proofs.lemmas.Str.Parse.{digit_at}
use Rattle.ring_any.specs.Any.{word_of}
use Rattle.ring_any.specs.declared.any.Any.{Any}
use Rattle.ring_any.specs.declared.any.Any.TheVariants.{LeLann, Chang, Hirschberg, Peterson}
use Rattle.ring_id.specs.GroupName.{IsName, is_name_byte}
use Rattle.ring_id.specs.Identity.{number_of, weight_of}
use Rattle.ring_grammar.specs.Identities.{IsNode, node_word, weight_text}
use Rattle.ring_grammar.specs.Spelling.{line_of}
use Rattle.ring_change.specs.declared.change.Change.{Change}
use Rattle.ring_change.specs.declared.change.Change.TheVariants.{Create, Join, Leave, Start, Know}
use Rattle.ring_change.specs.Spelling.{IsChange, change_line, change_words}
use Rattle.ring_change.specs.private.Reading.{words_in}

-- whether a byte is no LF and no zero
abbrev pub is_text : ℕ → Bool
is_text b = not (b == 10) && not (b == 0)

-- whether a byte is no LF, no zero and no space
abbrev pub is_inner : ℕ → Bool
is_inner b = not (b == 32) && is_text b

-- whether each byte of a word is no LF, no zero and no space
abbrev pub is_plain : List ℕ → Bool
is_plain word = list_all is_inner word

-- whether each of these words is plain
abbrev pub all_plain : List (List ℕ) → Bool
all_plain words = list_all is_plain words

-- a test that fails
pub false_from_not : (b : Bool) → not b ≡ true → b ≡ false
false_from_not true h = cc
false_from_not false h = refl

-- no byte of a plain word is a space
no_space_in : (word : List ℕ) → is_plain word ≡ true → All (λ b. (b == 32) ≡ false) word
no_space_in word plain =
    All-weaker (λ b. is_inner b ≡ true) (λ b. (b == 32) ≡ false) (λ b inner. false_from_not (b == 32) (and_parts (not (b == 32)) (is_text b) inner).0) word
    (AllPass-from_list_all is_inner word plain)

-- words with no space are the words of the line that they are joined to
pub words_in-line_of : (word : List ℕ) (words : List (List ℕ)) → all_plain (word ∷ words) ≡ true → words_in (line_of (word ∷ words)) ≡ word ∷ words
words_in-line_of word [] plain = slice_split_none (λ b. b == 32) word (no_space_in word (and_parts (is_plain word) true plain).0)
words_in-line_of word (next ∷ words) plain =
    let parts = and_parts (is_plain word) (all_plain (next ∷ words)) plain in
    slice_split_at (λ b. b == 32) word 32 (line_of (next ∷ words)) (no_space_in word parts.0) refl
    ∙ ap (λ (l : List (List ℕ)). word ∷ l) (words_in-line_of next words parts.1)

-- a byte that is no LF and no zero is text
pub text_byte : (b : ℕ) → b ≢ 10 → b ≢ 0 → is_text b ≡ true
text_byte b lf nil = and_from (not (b == 10)) (not (b == 0)) (ap not (ne_eqb b 10 lf)) (ap not (ne_eqb b 0 nil))

inner_byte : (b : ℕ) → b ≢ 32 → b ≢ 10 → b ≢ 0 → is_inner b ≡ true
inner_byte b space lf nil = and_from (not (b == 32)) (is_text b) (ap not (ne_eqb b 32 space)) (text_byte b lf nil)

-- a byte of a name is inner
inner-name_byte : (b : ℕ) → is_name_byte b ≡ true → is_inner b ≡ true
inner-name_byte b legal =
    inner_byte b
    (λ space. let bad : is_name_byte 32 ≡ true = rw space at legal in cc)
    (λ lf. let bad : is_name_byte 10 ≡ true = rw lf at legal in cc)
    (λ nil. let bad : is_name_byte 0 ≡ true = rw nil at legal in cc)

-- a digit is inner
inner-digit : (b : ℕ) → IsInRange 48 57 b → is_inner b ≡ true
inner-digit b digit = inner_byte b (λ space. absurd (omega arith)) (λ lf. absurd (omega arith)) (λ nil. absurd (omega arith))

-- a name is plain
pub plain-name : (name : List ℕ) → IsName name → is_plain name ≡ true
plain-name name legal = list_all-from_AllPass is_inner name (All-weaker (λ b. is_name_byte b ≡ true) (λ b. is_inner b ≡ true) inner-name_byte name (AllPass-from_list_all is_name_byte name legal.each))

-- the words of a number, a weight, an identity and an algorithm are plain
pub plain-decimal : (n : ℕ) → n < 2 ^ 64 → is_plain (decimal n) ≡ true
plain-decimal n short =
    let digits = (decimal_is_IsNumeral n short).0.1 in
    list_all-from_AllPass is_inner (decimal n) (All-from_get_or (λ b. is_inner b ≡ true) (decimal n) 0 (λ i below. inner-digit (get_or (decimal n) i 0) (digit_at (decimal n) i digits below)))

plain-weight : (weight : ℕ) → weight < 2 ^ 16 → is_plain (weight_text weight) ≡ true
plain-weight zero light = refl
plain-weight (suc weight) light = rw (eqb-suc-zero weight, plain-decimal (suc weight) (omega arith)) refl

pub plain-node : (node : ℕ) → IsNode node → is_plain (node_word node) ≡ true
plain-node node legal = rw (list_all-append, plain-decimal (number_of node) (omega (arith, legal.0.1))) (plain-weight (weight_of node) legal.1)

plain-algorithm : (algorithm : Any) → is_plain (word_of algorithm) ≡ true
plain-algorithm LeLann = refl
plain-algorithm Chang = refl
plain-algorithm Hirschberg = refl
plain-algorithm Peterson = refl

-- two plain words
both_plain : (a b : List ℕ) → is_plain a ≡ true → is_plain b ≡ true → all_plain (a ∷ b ∷ []) ≡ true
both_plain a b p q = and_from (is_plain a) (is_plain b && true) p (and_from (is_plain b) true q refl)

-- the words of a change are plain
pub plain-change : (change : Change Any) → IsChange change → all_plain (change_words change) ≡ true
plain-change (Create g a) p = both_plain g (word_of a) (plain-name g p) (plain-algorithm a)
plain-change (Join g n) p = both_plain g (node_word n) (plain-name g p.0) (plain-node n p.1)
plain-change (Leave g n) p = both_plain g (decimal n) (plain-name g p.0) (plain-decimal n (omega (arith, p.1.1)))
plain-change (Start g) p = and_from (is_plain g) true (plain-name g p) refl
plain-change (Know g t m l) p =
    and_from (is_plain g) (all_plain (decimal t ∷ node_word m ∷ node_word l ∷ [])) (plain-name g p.0)
    (and_from (is_plain (decimal t)) (all_plain (node_word m ∷ node_word l ∷ [])) (plain-decimal t (omega (arith, p.1.1)))
    (both_plain (node_word m) (node_word l) (plain-node m p.2) (plain-node l p.3)))

-- the words of a change are those of its line
pub words_in-change : (change : Change Any) → IsChange change → words_in (change_line change) ≡ change_words change
words_in-change (Create g a) p = words_in-line_of _ _ (plain-change (Create g a) p)
words_in-change (Join g n) p = words_in-line_of _ _ (plain-change (Join g n) p)
words_in-change (Leave g n) p = words_in-line_of _ _ (plain-change (Leave g n) p)
words_in-change (Start g) p = words_in-line_of _ _ (plain-change (Start g) p)
words_in-change (Know g t m l) p = words_in-line_of _ _ (plain-change (Know g t m l) p)

-- a plain word is text
text-word : (word : List ℕ) → is_plain word ≡ true → list_all is_text word ≡ true
text-word [] plain = refl
text-word (b ∷ word) plain =
    let parts = and_parts (is_inner b) (is_plain word) plain in
    and_from (is_text b) (list_all is_text word) (and_parts (not (b == 32)) (is_text b) parts.0).1 (text-word word parts.1)

-- a line of plain words is text
pub text-line_of : (words : List (List ℕ)) → all_plain words ≡ true → list_all is_text (line_of words) ≡ true
text-line_of [] plain = refl
text-line_of (word ∷ []) plain = text-word word (and_parts (is_plain word) true plain).0
text-line_of (word ∷ next ∷ words) plain =
    let parts = and_parts (is_plain word) (all_plain (next ∷ words)) plain in
    rw (list_all-append, text-word word parts.0) (text-line_of (next ∷ words) parts.1)
