-- The words of a line are those of the event that it spells.
use Rattle.std.proofs.Common.{◌≡◌, ◌<◌, ◌≤◌, ◌+◌, ◌^◌, ◌==◌, ◌&&◌, ℕ, true, zero, suc, List, [], ◌∷◌, length, Option, None, Some, IfSome, sym, ◌∙◌, ap, arith, refl, decimal}
use Rattle.std.specs.Prelude.{IfNone}
use Rattle.std.proofs.Math.Dec.{eqb-suc-zero}
use Rattle.std.proofs.lemmas.Bool.{and_from}
use Rattle.std.proofs.lemmas.List.Folds.{list_all-append}
use Rattle.std.proofs.lemmas.List.Splits.{join_with_byte-slice_split, length-slice_split}
use Rattle.ring_any.specs.Any.{word_of}
use Rattle.ring_any.specs.declared.any.Any.{Any}
use Rattle.ring_any.specs.declared.any.Any.TheVariants.{LeLann, Chang, Hirschberg, Peterson}
use Rattle.ring_id.specs.Identity.{number_of, weight_of}
use Rattle.ring_id.specs.declared.side.Side.{Side}
use Rattle.ring_id.specs.declared.side.Side.TheVariants.{Left, Right}
use Rattle.ring_events.specs.declared.event.Command.TheVariants.{Create, Join, Leave, Start, Who, Members, Terms, Groups}
use Rattle.ring_events.specs.declared.event.Event.{Event}
use Rattle.ring_events.specs.declared.event.Event.TheVariants.{Client, Deliver, Cut, Pending, Drain}
use Rattle.ring_grammar.specs.Identities.{IsNode, IsNumber, node_word, weight_text}
use Rattle.ring_grammar.specs.private.Reading.{Reads, words_in}
use Rattle.ring_grammar.specs.Spelling.{IsEvent, Spells, event_words, line_of, side_word}
use Rattle.ring_grammar.proofs.Plain.{all_plain, is_plain, plain-decimal, plain-name, words_in-line_of}

-- an event has one to four words
one_to_four_words : (event : Event Any) → (0 < length (event_words event)) × (length (event_words event) ≤ 4)
one_to_four_words (Client (Create group kind)) = (omega arith, omega arith)
one_to_four_words (Client (Join group node)) = (omega arith, omega arith)
one_to_four_words (Client (Leave group node)) = (omega arith, omega arith)
one_to_four_words (Client (Start group)) = (omega arith, omega arith)
one_to_four_words (Client (Who group node)) = (omega arith, omega arith)
one_to_four_words (Client (Members group)) = (omega arith, omega arith)
one_to_four_words (Client (Terms group)) = (omega arith, omega arith)
one_to_four_words (Client Groups) = (omega arith, omega arith)
one_to_four_words (Deliver group node side) = (omega arith, omega arith)
one_to_four_words (Cut group node side) = (omega arith, omega arith)
one_to_four_words (Pending group) = (omega arith, omega arith)
one_to_four_words (Drain group count) = (omega arith, omega arith)

-- a text has one more word than the text after its first word
one_word_more : (text first rest : List ℕ) → words_in text ≡ first ∷ words_in rest → length (words_in text) ≡ length (words_in rest) + 1
one_word_more text first rest cut = rw cut (omega arith)

-- a text that is cut four times has a word too many
pub too_many_words : (event : Event Any) (line text1 text2 text3 text4 word1 word2 word3 word4 : List ℕ) → words_in line ≡ word1 ∷ words_in text1 → words_in text1 ≡ word2 ∷ words_in text2 → words_in text2 ≡ word3 ∷ words_in text3 → words_in text3 ≡ word4 ∷ words_in text4 → words_in line ≡ event_words event → ⊥
too_many_words event line text1 text2 text3 text4 word1 word2 word3 word4 cut1 cut2 cut3 cut4 same =
    let five : 4 < length (words_in line) = omega (arith, one_word_more line word1 text1 cut1, one_word_more text1 word2 text2 cut2, one_word_more text2 word3 text3 cut3, one_word_more text3 word4 text4 cut4, length-slice_split (λ b. b == 32) text4) in
    absurd (omega (arith, ap length same, (one_to_four_words event).1))

-- the words of a kind, a side, a weight, an identity and a number have no space
plain-kind : (kind : Any) → is_plain (word_of kind) ≡ true
plain-kind LeLann = refl
plain-kind Chang = refl
plain-kind Hirschberg = refl
plain-kind Peterson = refl

plain-side : (side : Side) → is_plain (side_word side) ≡ true
plain-side Left = refl
plain-side Right = refl

plain-weight : (weight : ℕ) → weight < 2 ^ 16 → is_plain (weight_text weight) ≡ true
plain-weight zero light = refl
plain-weight (suc weight) light = rw (eqb-suc-zero weight, plain-decimal (suc weight) (omega arith)) refl

pub plain-node : (node : ℕ) → IsNode node → is_plain (node_word node) ≡ true
plain-node node legal = rw (list_all-append, plain-decimal (number_of node) (omega (arith, legal.0.1))) (plain-weight (weight_of node) legal.1)

pub plain-number : (number : ℕ) → IsNumber number → is_plain (decimal number) ≡ true
plain-number number legal = plain-decimal number (omega (arith, legal.1))

-- two plain words
both_plain : (a b : List ℕ) → is_plain a ≡ true → is_plain b ≡ true → all_plain (a ∷ b ∷ []) ≡ true
both_plain a b p q = and_from (is_plain a) (is_plain b && true) p (and_from (is_plain b) true q refl)

-- the words of an event have no space
plain-event : (event : Event Any) → IsEvent event → all_plain (event_words event) ≡ true
plain-event (Client (Create group kind)) legal = both_plain group (word_of kind) (plain-name group legal) (plain-kind kind)
plain-event (Client (Join group node)) legal = both_plain group (node_word node) (plain-name group legal.0) (plain-node node legal.1)
plain-event (Client (Leave group number)) legal = both_plain group (decimal number) (plain-name group legal.0) (plain-number number legal.1)
plain-event (Client (Start group)) legal = and_from (is_plain group) true (plain-name group legal) refl
plain-event (Client (Who group number)) legal = both_plain group (decimal number) (plain-name group legal.0) (plain-number number legal.1)
plain-event (Client (Members group)) legal = and_from (is_plain group) true (plain-name group legal) refl
plain-event (Client (Terms group)) legal = and_from (is_plain group) true (plain-name group legal) refl
plain-event (Client Groups) legal = refl
plain-event (Deliver group number side) legal = and_from (is_plain group) (all_plain (decimal number ∷ side_word side ∷ [])) (plain-name group legal.0) (both_plain (decimal number) (side_word side) (plain-number number legal.1) (plain-side side))
plain-event (Cut group number side) legal = and_from (is_plain group) (all_plain (decimal number ∷ side_word side ∷ [])) (plain-name group legal.0) (both_plain (decimal number) (side_word side) (plain-number number legal.1) (plain-side side))
plain-event (Pending group) legal = and_from (is_plain group) true (plain-name group legal) refl
plain-event (Drain group count) legal = both_plain group (decimal count) (plain-name group legal.0) (plain-decimal count (omega arith))

-- the words of the line that words are joined to, if there is a word
pub words_in-line_of_some : (words : List (List ℕ)) → 0 < length words → all_plain words ≡ true → words_in (line_of words) ≡ words
words_in-line_of_some [] some plain = absurd (omega arith)
words_in-line_of_some (word ∷ words) some plain = words_in-line_of word words plain

-- a line that spells an event is cut into the event's words
pub words_in-spelled : (line : List ℕ) (event : Event Any) → Spells line event → words_in line ≡ event_words event
words_in-spelled line event spells = rw (spells.same, words_in-line_of_some (event_words event) (one_to_four_words event).0 (plain-event event spells.legal)) refl

-- words that are read are those of a line that spells
pub spells_read : (line : List ℕ) (read : Option (Event Any)) → length line ≤ 128 → Reads event_words IsEvent (words_in line) read → IfSome read (Spells line)
spells_read line None short reads = tt
spells_read line (Some event) short reads = record { short = short; legal = reads.0; same = sym (join_with_byte-slice_split 32 line) ∙ ap line_of reads.1 }

-- a line whose words are not read spells nothing
pub spells_unread : (line : List ℕ) (read : Option (Event Any)) → Reads event_words IsEvent (words_in line) read → IfNone read ((event : Event Any) → ¬ (Spells line event))
spells_unread line None reads = λ event spells. reads event spells.legal (words_in-spelled line event spells)
spells_unread line (Some event) reads = tt
