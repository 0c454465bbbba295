-- Each event has one spelling, and no line spells two events.
use Rattle.std.proofs.Common.{◌≡◌, ◌<◌, ◌≤◌, ◌+◌, ◌*◌, ◌^◌, ℕ, zero, suc, Bool, true, false, List, [], ◌∷◌, ◌++◌, length, length-append, sym, ◌∙◌, ap, arith, refl, codes, decimal}
use Rattle.std.specs.Prelude.{◌==◌, ◌||◌, fold}
use Rattle.std.proofs.Math.Dec.{eqb-suc-zero}
use Rattle.std.proofs.lemmas.Fmt.{decimal_injective, length-decimal-le}
use Rattle.ring_any.specs.Any.{word_of}
use Rattle.ring_any.specs.declared.any.Any.{Any}
use Rattle.ring_any.specs.declared.any.Any.TheVariants.{LeLann, Chang, Hirschberg, Peterson}
use Rattle.ring_id.specs.Identity.{number_of, weight_of}
use Rattle.ring_id.specs.declared.side.Side.{Side}
use Rattle.ring_id.specs.declared.side.Side.TheVariants.{Left, Right}
use Rattle.ring_events.specs.declared.event.Command.{Command}
use Rattle.ring_events.specs.declared.event.Command.TheVariants.{Create, Join, Leave, Start, Who, Members, Terms, Groups}
use Rattle.ring_events.specs.declared.event.Event.{Event}
use Rattle.ring_events.specs.declared.event.Event.TheVariants.{Client, Deliver, Cut, Pending, Drain}
use Rattle.ring_grammar.specs.Identities.{IsNode, IsNumber, node_word, weight_text}
use Rattle.ring_grammar.specs.Spelling.{IsCommand, IsEvent, Spells, command_words, event_words, line_of, side_word}
use Rattle.ring_grammar.specs.OneSpelling.{HaveOneSpelling}
use Rattle.ring_grammar.proofs.Identities.{same_node}
use Rattle.ring_grammar.proofs.Words.{words_in-spelled}

-- a word as one number; written words differ in it
abbrev pub number_of_word : List ℕ → ℕ
number_of_word word = fold (λ n b. n * 256 + b) 0 word

-- the number of the first word
abbrev pub number_of_first : List (List ℕ) → ℕ
number_of_first [] = 0
number_of_first (word ∷ words) = number_of_word word

-- no two kinds have one word
same_kind : (a b : Any) → word_of a ≡ word_of b → a ≡ b
same_kind LeLann LeLann same = refl
same_kind Chang Chang same = refl
same_kind Hirschberg Hirschberg same = refl
same_kind Peterson Peterson same = refl
same_kind _ _ same = absurd (omega (arith, ap number_of_word same))

-- no two sides have one word
same_side : (a b : Side) → side_word a ≡ side_word b → a ≡ b
same_side Left Left same = refl
same_side Right Right same = refl
same_side _ _ same = absurd (omega (arith, ap number_of_word same))

-- no two numbers of nodes have one word
same_number : (a b : ℕ) → IsNumber a → IsNumber b → decimal a ≡ decimal b → a ≡ b
same_number a b p q same = decimal_injective a b (omega (arith, p.1)) (omega (arith, q.1)) same

-- no two commands have the same words
same_command : (a b : Command Any) → IsCommand a → IsCommand b → command_words a ≡ command_words b → a ≡ b
same_command (Create g k) (Create h l) p q same = let kind = same_kind k l cc in cc
same_command (Join g m) (Join h n) p q same = let node = same_node m n p.1 q.1 cc in cc
same_command (Leave g m) (Leave h n) p q same = let number = same_number m n p.1 q.1 cc in cc
same_command (Start g) (Start h) p q same = cc
same_command (Who g m) (Who h n) p q same = let number = same_number m n p.1 q.1 cc in cc
same_command (Members g) (Members h) p q same = cc
same_command (Terms g) (Terms h) p q same = cc
same_command Groups Groups p q same = refl
same_command _ _ p q same = absurd (omega (arith, ap number_of_first same))

-- whether the first word is that of a line of a schedule
abbrev is_schedule : List (List ℕ) → Bool
is_schedule words =
    let first = number_of_first words in
    (first == number_of_word (codes "deliver")) || (first == number_of_word (codes "cut")) || (first == number_of_word (codes "pending")) || (first == number_of_word (codes "drain"))

-- a client command is no line of a schedule
no_schedule : (command : Command Any) → is_schedule (command_words command) ≡ false
no_schedule (Create g k) = refl
no_schedule (Join g m) = refl
no_schedule (Leave g m) = refl
no_schedule (Start g) = refl
no_schedule (Who g m) = refl
no_schedule (Members g) = refl
no_schedule (Terms g) = refl
no_schedule Groups = refl

-- the words of a line of a schedule are those of no client command
apart : (command : Command Any) (words : List (List ℕ)) → is_schedule words ≡ true → command_words command ≡ words → ⊥
apart command words schedule same = let none : is_schedule words ≡ false = sym (ap is_schedule same) ∙ no_schedule command in cc

-- no two events have the same words
same_event : (a b : Event Any) → IsEvent a → IsEvent b → event_words a ≡ event_words b → a ≡ b
same_event (Client a) (Client b) p q same = ap (λ (command : Command Any). Client command) (same_command a b p q same)
same_event (Client a) (Deliver h n t) p q same = absurd (apart a (event_words (Deliver h n t)) refl same)
same_event (Client a) (Cut h n t) p q same = absurd (apart a (event_words (Cut h n t)) refl same)
same_event (Client a) (Pending h) p q same = absurd (apart a (event_words (Pending h)) refl same)
same_event (Client a) (Drain h n) p q same = absurd (apart a (event_words (Drain h n)) refl same)
same_event (Deliver g m s) (Client b) p q same = absurd (apart b (event_words (Deliver g m s)) refl (sym same))
same_event (Cut g m s) (Client b) p q same = absurd (apart b (event_words (Cut g m s)) refl (sym same))
same_event (Pending g) (Client b) p q same = absurd (apart b (event_words (Pending g)) refl (sym same))
same_event (Drain g m) (Client b) p q same = absurd (apart b (event_words (Drain g m)) refl (sym same))
same_event (Deliver g m s) (Deliver h n t) p q same = let number = same_number m n p.1 q.1 cc in let side = same_side s t cc in cc
same_event (Cut g m s) (Cut h n t) p q same = let number = same_number m n p.1 q.1 cc in let side = same_side s t cc in cc
same_event (Pending g) (Pending h) p q same = cc
same_event (Drain g m) (Drain h n) p q same = let count = decimal_injective m n (omega arith) (omega arith) cc in cc
same_event _ _ p q same = absurd (omega (arith, ap number_of_first same))

-- no line spells two events
pub one_event : (line : List ℕ) (a b : Event Any) → Spells line a → Spells line b → a ≡ b
one_event line a b p q = same_event a b p.legal q.legal (sym (words_in-spelled line a p) ∙ words_in-spelled line b q)

-- the words of a kind, a side, a number, a weight and an identity are short
short-kind : (kind : Any) → length (word_of kind) ≤ 10
short-kind LeLann = omega arith
short-kind Chang = omega arith
short-kind Hirschberg = omega arith
short-kind Peterson = omega arith

short-side : (side : Side) → length (side_word side) ≤ 5
short-side Left = omega arith
short-side Right = omega arith

short-number : (number : ℕ) → number < 2 ^ 32 → length (decimal number) ≤ 10
short-number number short = length-decimal-le 10 number (omega arith) (omega arith) (omega arith)

short-weight : (weight : ℕ) → weight < 2 ^ 16 → length (weight_text weight) ≤ 6
short-weight zero light = omega arith
short-weight (suc weight) light =
    rw (eqb-suc-zero weight) (omega (arith, length-decimal-le 5 (suc weight) (omega arith) (omega arith) (omega arith)))

short-node : (node : ℕ) → IsNode node → length (node_word node) ≤ 16
short-node node legal =
    omega (arith, length-append (decimal (number_of node)) (weight_text (weight_of node)), short-number (number_of node) legal.0.1, short-weight (weight_of node) legal.1)

-- the line of an event is short
short-event : (event : Event Any) → IsEvent event → length (line_of (event_words event)) ≤ 128
short-event (Client (Create g k)) p = omega (arith, length-append g (32 ∷ word_of k), p.short, short-kind k)
short-event (Client (Join g n)) p = omega (arith, length-append g (32 ∷ node_word n), p.0.short, short-node n p.1)
short-event (Client (Leave g n)) p = omega (arith, length-append g (32 ∷ decimal n), p.0.short, short-number n p.1.1)
short-event (Client (Start g)) p = omega (arith, p.short)
short-event (Client (Who g n)) p = omega (arith, length-append g (32 ∷ decimal n), p.0.short, short-number n p.1.1)
short-event (Client (Members g)) p = omega (arith, p.short)
short-event (Client (Terms g)) p = omega (arith, p.short)
short-event (Client Groups) p = omega arith
short-event (Deliver g n s) p =
    omega (arith, length-append g (32 ∷ (decimal n ++ 32 ∷ side_word s)), length-append (decimal n) (32 ∷ side_word s), p.0.short, short-number n p.1.1, short-side s)
short-event (Cut g n s) p =
    omega (arith, length-append g (32 ∷ (decimal n ++ 32 ∷ side_word s)), length-append (decimal n) (32 ∷ side_word s), p.0.short, short-number n p.1.1, short-side s)
short-event (Pending g) p = omega (arith, p.short)
short-event (Drain g k) p = omega (arith, length-append g (32 ∷ decimal k), p.0.short, short-number k (omega arith))

-- each event has one spelling, and no line spells two
pub events_have_one_spelling : HaveOneSpelling IsEvent Spells
events_have_one_spelling = record {
  each = λ event legal. (line_of (event_words event), record { short = short-event event legal; legal = legal; same = refl });
  one_line = λ a b event p q. p.same ∙ sym q.same;
  one_value = one_event;
}
