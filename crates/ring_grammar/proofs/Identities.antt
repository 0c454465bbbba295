-- The word of an identity: its number, and after a slash its weight if it has one.
use Rattle.std.proofs.Common.{◌≡◌, ◌<◌, ◌↔◌, ◌==◌, ◌++◌, ◌^◌, ℕ, zero, suc, false, cond, List, [], ◌∷◌, length, Option, None, Some, IsSome, IfSome, All, get_or, sym, ap, ◌∙◌, append-nil, arith, refl, decimal}
use Rattle.std.specs.List.{join_with_byte}
use Rattle.std.specs.Int.{IsInRange}
use Rattle.std.proofs.Math.Dec.{eqb-suc-zero}
use Rattle.std.proofs.lemmas.Bool.{ne_eqb}
use Rattle.std.proofs.lemmas.Fmt.{decimal_injective, decimal_is_IsNumeral}
use Rattle.std.proofs.lemmas.List.Elements.{All-from_get_or}
use Rattle.std.proofs.lemmas.List.Splits.{join_with_byte-slice_split, length-slice_split, slice_split_at, slice_split_none}
use Rattle.std.proofs.lemmas.Str.Parse.{digit_at}
use Rattle.ring_id.specs.Identity.{number_of, rank_of, weight_of}
use Rattle.ring_grammar.specs.Identities.{IsNode, node_word, weight_text}
use Rattle.ring_grammar.specs.private.Identities.{IsWeight}
use Rattle.ring_grammar.specs.private.Reading.{IsShortNumber, Reads, parts_at}
use Rattle.ring_grammar.proofs.Numbers.{printed_of_one}

-- the parts of an identity's word: its number, and its weight if it has one
abbrev pub parts_of : ℕ → ℕ → List (List ℕ)
parts_of number weight = decimal number ∷ cond (weight == 0) [] (decimal weight ∷ [])

-- a digit is no slash
digit_no_slash : (b : ℕ) → IsInRange 48 57 b → (b == 47) ≡ false
digit_no_slash b digit = ne_eqb b 47 (λ slash. absurd (omega arith))

-- so there is none in a number
no_slash : (n : ℕ) → n < 2 ^ 32 → All (λ b. (b == 47) ≡ false) (decimal n)
no_slash n short =
    let digits = (decimal_is_IsNumeral n (omega arith)).0.1 in
    All-from_get_or (λ b. (b == 47) ≡ false) (decimal n) 0 (λ i below. digit_no_slash (get_or (decimal n) i 0) (digit_at (decimal n) i digits below))

-- a number is one part
parts-number : (n : ℕ) → n < 2 ^ 32 → parts_at 47 (decimal n) ≡ decimal n ∷ []
parts-number n short = slice_split_none (λ b. b == 47) (decimal n) (no_slash n short)

-- a number and a weight are cut at the slash
parts-word : (number weight : ℕ) → number < 2 ^ 32 → weight < 2 ^ 16 → parts_at 47 (decimal number ++ weight_text weight) ≡ parts_of number weight
parts-word number zero short light = rw append-nil (parts-number number short)
parts-word number (suc weight) short light =
    rw (eqb-suc-zero weight)
    (slice_split_at (λ b. b == 47) (decimal number) 47 (decimal (suc weight)) (no_slash number short) refl
    ∙ ap (λ (l : List (List ℕ)). decimal number ∷ l) (parts-number (suc weight) (omega arith)))

-- no two weights have the same parts
same_weight : (v w : ℕ) → v < 2 ^ 16 → w < 2 ^ 16 → cond (v == 0) [] (decimal v ∷ []) ≡ cond (w == 0) [] (decimal w ∷ []) → v ≡ w
same_weight zero zero p q same = refl
same_weight zero (suc w) p q same = let none = rw (eqb-suc-zero w) at same in cc
same_weight (suc v) zero p q same = let none = rw (eqb-suc-zero v) at same in cc
same_weight (suc v) (suc w) p q same =
    let words = rw (eqb-suc-zero v, eqb-suc-zero w) at same in
    decimal_injective (suc v) (suc w) (omega arith) (omega arith) cc

-- the number and the weight say the rank
same_rank : (a b : ℕ) → number_of a ≡ number_of b → weight_of a ≡ weight_of b → a ≡ b
same_rank a b number weight = omega arith

-- no two identities have one word
pub same_node : (a b : ℕ) → IsNode a → IsNode b → node_word a ≡ node_word b → a ≡ b
same_node a b p q same =
    let parts : parts_of (number_of a) (weight_of a) ≡ parts_of (number_of b) (weight_of b) =
    sym (parts-word (number_of a) (weight_of a) p.0.1 p.1) ∙ ap (parts_at 47) same ∙ parts-word (number_of b) (weight_of b) q.0.1 q.1 in
    let number = decimal_injective (number_of a) (number_of b) (omega (arith, p.0.1)) (omega (arith, q.0.1)) cc in
    let weight = same_weight (weight_of a) (weight_of b) p.1 q.1 cc in
    same_rank a b number weight

-- a text has a part
some_part : (text : List ℕ) → parts_at 47 text ≡ [] → ⊥
some_part text none = absurd (omega (arith, length-slice_split (λ b. b == 47) text, ap length none))

-- a text of one part is that part
one_part : (text part : List ℕ) → parts_at 47 text ≡ part ∷ [] → text ≡ part
one_part text part same = sym (join_with_byte-slice_split 47 text) ∙ ap (join_with_byte 47) same

-- a word that isn't cut has no weight
uncut_is_number : (word : List ℕ) (number weight : ℕ) → number < 2 ^ 32 → weight < 2 ^ 16 → parts_at 47 word ≡ word ∷ [] → word ≡ decimal number ++ weight_text weight → word ≡ decimal number
uncut_is_number word number zero short light parts same = same ∙ append-nil (decimal number)
uncut_is_number word number (suc weight) short light parts same =
    let parted = rw (eqb-suc-zero weight) at (sym parts ∙ ap (parts_at 47) same ∙ parts-word number (suc weight) short light) in
    cc

-- The text before and after the slash of an identity's word.
record IsParted (front rest : List ℕ) (number weight : ℕ) : Type 0 where
  number_is : front ≡ decimal number
  weight_is : rest ≡ decimal weight
  some : 0 < weight

-- a word that is cut has a weight
cut_is_number_and_weight : (word front rest : List ℕ) (number weight : ℕ) → number < 2 ^ 32 → weight < 2 ^ 16 → parts_at 47 word ≡ front ∷ parts_at 47 rest → word ≡ decimal number ++ weight_text weight → IsParted front rest number weight
cut_is_number_and_weight word front rest number zero short light parts same =
    let parted = sym parts ∙ ap (parts_at 47) same ∙ parts-word number zero short light in
    absurd (some_part rest cc)
cut_is_number_and_weight word front rest number (suc weight) short light parts same =
    let parted = rw (eqb-suc-zero weight) at (sym parts ∙ ap (parts_at 47) same ∙ parts-word number (suc weight) short light) in
    record { number_is = cc; weight_is = one_part rest (decimal (suc weight)) cc; some = omega arith }

-- the word of a number and a weight
word_of_parts : (word front rest : List ℕ) (n w : ℕ) → parts_at 47 word ≡ front ∷ parts_at 47 rest → n < 2 ^ 32 → front ≡ decimal n → IsWeight w → rest ≡ decimal w → word ≡ decimal n ++ weight_text w
word_of_parts word front rest n w parts short front_is legal rest_is =
    let some : (w == 0) ≡ false = ne_eqb w 0 (λ none. absurd (omega (arith, legal.0))) in
    let two : parts_at 47 word ≡ decimal n ∷ decimal w ∷ [] = rw (parts, front_is, rest_is, parts-number w (omega (arith, legal.1))) refl in
    rw some (sym (join_with_byte-slice_split 47 word) ∙ ap (join_with_byte 47) two)

-- a word that isn't cut and whose number isn't read is no identity's
pub unread_uncut : (word : List ℕ) → parts_at 47 word ≡ word ∷ [] → Reads decimal IsShortNumber word None → Reads node_word IsNode word None
unread_uncut word parts unread = λ rank legal same.
    unread (number_of rank) legal.0.1 (uncut_is_number word (number_of rank) (weight_of rank) legal.0.1 legal.1 parts same)

-- a word whose front isn't read as a number is no identity's
pub unread_front : (word front rest : List ℕ) → parts_at 47 word ≡ front ∷ parts_at 47 rest → Reads decimal IsShortNumber front None → Reads node_word IsNode word None
unread_front word front rest parts unread = λ rank legal same.
    unread (number_of rank) legal.0.1 (cut_is_number_and_weight word front rest (number_of rank) (weight_of rank) legal.0.1 legal.1 parts same).number_is

-- a word whose rest isn't read as a weight is no identity's
pub unread_rest : (word front rest : List ℕ) → parts_at 47 word ≡ front ∷ parts_at 47 rest → Reads decimal IsWeight rest None → Reads node_word IsNode word None
unread_rest word front rest parts unread = λ rank legal same.
    let found = cut_is_number_and_weight word front rest (number_of rank) (weight_of rank) legal.0.1 legal.1 parts same in
    unread (weight_of rank) (found.some, legal.1) found.weight_is

-- the identity of a number that was read, if the word isn't cut
pub reads_uncut : (word : List ℕ) (n : ℕ) (node : Option ℕ) → parts_at 47 word ≡ word ∷ [] → Reads decimal IsShortNumber word (Some n) → IsSome node ↔ (0 < n) → IfSome node (λ id. id ≡ n) → Reads node_word IsNode word node
reads_uncut word n None parts read there value = λ rank legal same.
    let number = printed_of_one word n (number_of rank) read.0 legal.0.1 read.1 (uncut_is_number word (number_of rank) (weight_of rank) legal.0.1 legal.1 parts same) in
    let some = there.1 (omega (arith, legal.0.0)) in
    cc
reads_uncut word n (Some id) parts read there value =
    let number : number_of n ≡ n = omega (arith, read.0) in
    let weight : weight_of n ≡ 0 = omega (arith, read.0) in
    let positive = there.0 refl in
    rw (value, number, weight, append-nil) (((positive, read.0), omega arith), read.1)

-- the identity of a number and a weight that were read
pub reads_cut : (word front rest : List ℕ) (n w : ℕ) (node : Option ℕ) → parts_at 47 word ≡ front ∷ parts_at 47 rest → Reads decimal IsShortNumber front (Some n) → Reads decimal IsWeight rest (Some w) → IsSome node ↔ (0 < n) → IfSome node (λ id. id ≡ rank_of w n) → Reads node_word IsNode word node
reads_cut word front rest n w None parts read_front read_rest there value = λ rank legal same.
    let found = cut_is_number_and_weight word front rest (number_of rank) (weight_of rank) legal.0.1 legal.1 parts same in
    let number = printed_of_one front n (number_of rank) read_front.0 legal.0.1 read_front.1 found.number_is in
    let some = there.1 (omega (arith, legal.0.0)) in
    cc
reads_cut word front rest n w (Some id) parts read_front read_rest there value =
    let number : number_of (rank_of w n) ≡ n = omega (arith, read_front.0) in
    let weight : weight_of (rank_of w n) ≡ w = omega (arith, read_front.0) in
    let positive = there.0 refl in
    rw (value, number, weight) (((positive, read_front.0), read_rest.0.1), word_of_parts word front rest n w parts read_front.0 read_front.1 read_rest.0 read_rest.1)
