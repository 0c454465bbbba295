-- Words of a change by a report, each read as the last word of a command.
use Rattle.std.proofs.Common.{◌≡◌, ◌↔◌, ◌==◌, ◌<◌, ◌+◌, ◌++◌, ℕ, true, List, [], ◌∷◌, length, get_or, Option, None, Some, IsSome, IfSome, sym, ◌∙◌, ap, arith, refl, codes, decimal}
use Rattle.std.specs.List.{list_all}
use Rattle.std.proofs.lemmas.Bool.{and_parts}
use Rattle.std.proofs.lemmas.Fmt.{decimal_injective}
use Rattle.std.proofs.lemmas.List.Splits.{length-slice_split}
use Rattle.ring_any.specs.declared.any.Any.{Any}
use Rattle.ring_id.specs.GroupName.{IsName, is_name_byte}
use Rattle.ring_id.specs.Term.{IsTerm}
use Rattle.ring_events.specs.declared.event.Command.{Command}
use Rattle.ring_events.specs.declared.event.Command.TheVariants.{Create, Join, Leave, Start, Who, Members, Terms, Groups}
use Rattle.ring_events.specs.declared.event.Event.TheVariants.{Client}
use Rattle.ring_grammar.specs.Identities.{IsNode, IsNumber, node_word}
use Rattle.ring_grammar.specs.Spelling.{Spells}
use Rattle.ring_change.specs.declared.change.Change.{Change}
use Rattle.ring_change.specs.declared.change.Change.TheVariants as change
use Rattle.ring_change.specs.Spelling.{change_words}
use Rattle.ring_change.specs.private.Reading.{IsKnow, Reads, joined_node, left_number, words_in}
use Rattle.ring_change.proofs.Short.{short-node, short-number}

-- the name of the group in whose commands words are read
a_name : IsName (codes "a")
a_name = record { some = omega arith; short = omega arith; each = refl }

-- a name before a space is one byte if one byte is before the first space
one_byte : (word name rest : List ℕ) → IsName name → 97 ∷ 32 ∷ word ≡ name ++ 32 ∷ rest → word ≡ rest
one_byte word [] rest legal same = absurd (omega (arith, legal.some))
one_byte word (b ∷ []) rest legal same = cc
one_byte word (b ∷ space ∷ name) rest legal same =
    let is : space ≡ 32 = cc in
    let legal_bytes = (and_parts (is_name_byte b) (list_all is_name_byte (space ∷ name)) legal.each).1 in
    let bad : is_name_byte 32 ≡ true = rw is at (and_parts (is_name_byte space) (list_all is_name_byte name) legal_bytes).0 in
    cc

-- the first byte of a line
abbrev first_byte : List ℕ → ℕ
first_byte line = get_or line 0 0

-- If a command is spelled by `leave a` and a word, it is a command to leave. Its number is the one
-- that the word spells.
pub reads_left : (word : List ℕ) (asks : Command Any) → Spells (codes "leave a " ++ word) (Client asks) → Reads decimal IsNumber word (left_number asks)
reads_left word (Leave group number) spells = (spells.legal.1, one_byte word group (decimal number) spells.legal.0 cc)
reads_left word (Create group kind) spells = absurd (omega (arith, ap first_byte spells.same))
reads_left word (Join group node) spells = absurd (omega (arith, ap first_byte spells.same))
reads_left word (Start group) spells = absurd (omega (arith, ap first_byte spells.same))
reads_left word (Who group number) spells = absurd (omega (arith, ap first_byte spells.same))
reads_left word (Members group) spells = absurd (omega (arith, ap first_byte spells.same))
reads_left word (Terms group) spells = absurd (omega (arith, ap first_byte spells.same))
reads_left word Groups spells = absurd (omega (arith, ap first_byte spells.same))

-- If a command is spelled by `join a` and a word, it is a command to join. Its identity is the one
-- that the word spells.
pub reads_joined : (word : List ℕ) (asks : Command Any) → Spells (codes "join a " ++ word) (Client asks) → Reads node_word IsNode word (joined_node asks)
reads_joined word (Join group node) spells = (spells.legal.1, one_byte word group (node_word node) spells.legal.0 cc)
reads_joined word (Create group kind) spells = absurd (omega (arith, ap first_byte spells.same))
reads_joined word (Leave group number) spells = absurd (omega (arith, ap first_byte spells.same))
reads_joined word (Start group) spells = absurd (omega (arith, ap first_byte spells.same))
reads_joined word (Who group number) spells = absurd (omega (arith, ap first_byte spells.same))
reads_joined word (Members group) spells = absurd (omega (arith, ap first_byte spells.same))
reads_joined word (Terms group) spells = absurd (omega (arith, ap first_byte spells.same))
reads_joined word Groups spells = absurd (omega (arith, ap first_byte spells.same))

-- a word is no number if no command to leave is spelled with it, or if it is too long for one
pub unread_left : (line word : List ℕ) → line ≡ codes "leave a " ++ word → ((asks : Command Any) → ¬ (Spells line (Client asks))) → Reads decimal IsNumber word None
unread_left line word is none = λ number legal same.
    none (Leave (codes "a") number) (record { short = omega (arith, ap length is, ap length same, short-number number legal.1); legal = (a_name, legal); same = rw (is, same) refl })

pub long_left : (word : List ℕ) → 70 < 8 + length word → Reads decimal IsNumber word None
long_left word long = λ number legal same. absurd (omega (arith, long, ap length same, short-number number legal.1))

-- a word is no identity if no command to join is spelled with it, or if it is too long for one
pub unread_joined : (line word : List ℕ) → line ≡ codes "join a " ++ word → ((asks : Command Any) → ¬ (Spells line (Client asks))) → Reads node_word IsNode word None
unread_joined line word is none = λ node legal same.
    none (Join (codes "a") node) (record { short = omega (arith, ap length is, ap length same, short-node node legal); legal = (a_name, legal); same = rw (is, same) refl })

pub long_joined : (word : List ℕ) → 70 < 7 + length word → Reads node_word IsNode word None
long_joined word long = λ node legal same. absurd (omega (arith, long, ap length same, short-node node legal))

-- the term of a number that is read
pub term_read : (word : List ℕ) (n m : ℕ) (term : Option ℕ) → Reads decimal IsNumber word (Some n) → m ≡ n → IsSome term ↔ IsTerm m → IfSome term (λ t. t ≡ m) → Reads decimal IsTerm word term
term_read word n m None reads same there value = λ a legal printed.
    let is : n ≡ a = decimal_injective n a (omega (arith, reads.0.1)) (omega (arith, legal.1)) (sym reads.1 ∙ printed) in
    let some = there.1 (rw (same, is) legal) in
    cc
term_read word n m (Some t) reads same there value =
    let legal : IsTerm m = there.0 refl in
    rw (value, same) (rw same at legal, reads.1)

-- a number of more than 16 bits is that of no term
pub term_long : (word : List ℕ) (n : ℕ) → Reads decimal IsNumber word (Some n) → ¬ (n < 65536) → Reads decimal IsTerm word None
term_long word n reads long = λ a legal printed.
    let is : n ≡ a = decimal_injective n a (omega (arith, reads.0.1)) (omega (arith, legal.1)) (sym reads.1 ∙ printed) in
    absurd (long (omega (arith, is, legal.1)))

-- a text has one word more than the text after its first word
one_word_more : (text first rest : List ℕ) → words_in text ≡ first ∷ words_in rest → length (words_in text) ≡ length (words_in rest) + 1
one_word_more text first rest cut = rw cut (omega arith)

-- a text that is cut five times has a word too many for a change by a report
pub too_many_words : (change : Change Any) (line text1 text2 text3 text4 text5 word1 word2 word3 word4 word5 : List ℕ) → IsKnow change
    → words_in line ≡ word1 ∷ words_in text1 → words_in text1 ≡ word2 ∷ words_in text2 → words_in text2 ≡ word3 ∷ words_in text3 → words_in text3 ≡ word4 ∷ words_in text4 → words_in text4 ≡ word5 ∷ words_in text5
    → words_in line ≡ change_words change → ⊥
too_many_words (change.Know group term member leader) line text1 text2 text3 text4 text5 word1 word2 word3 word4 word5 legal cut1 cut2 cut3 cut4 cut5 same =
    absurd (omega (arith, one_word_more line word1 text1 cut1, one_word_more text1 word2 text2 cut2, one_word_more text2 word3 text3 cut3, one_word_more text3 word4 text4 cut4, one_word_more text4 word5 text5 cut5, length-slice_split (λ b. b == 32) text5, ap length same))
too_many_words (change.Create group algorithm) line text1 text2 text3 text4 text5 word1 word2 word3 word4 word5 legal cut1 cut2 cut3 cut4 cut5 same = legal
too_many_words (change.Join group node) line text1 text2 text3 text4 text5 word1 word2 word3 word4 word5 legal cut1 cut2 cut3 cut4 cut5 same = legal
too_many_words (change.Leave group number) line text1 text2 text3 text4 text5 word1 word2 word3 word4 word5 legal cut1 cut2 cut3 cut4 cut5 same = legal
too_many_words (change.Start group) line text1 text2 text3 text4 text5 word1 word2 word3 word4 word5 legal cut1 cut2 cut3 cut4 cut5 same = legal
