-- The question `who` is read by the words after its first.
use Rattle.std.proofs.Common.{◌≡◌, ◌<◌, ◌^◌, ℕ, true, List, [], ◌∷◌, Option, None, Some, sym, ◌∙◌, ap, refl, arith, decimal, codes}
use Rattle.std.proofs.lemmas.Bool.{and_from}
use Rattle.std.proofs.lemmas.List.Splits.{join_with_byte-slice_split}
use Rattle.ring_any.specs.declared.any.Any.{Any}
use Rattle.ring_id.specs.GroupName.{IsName}
use Rattle.ring_events.specs.declared.event.Command.TheVariants.{Create, Join, Leave, Start, Who, Members, Terms, Groups}
use Rattle.ring_events.specs.declared.event.Event.{Event}
use Rattle.ring_events.specs.declared.event.Event.TheVariants.{Client, Deliver, Cut, Pending, Drain}
use Rattle.ring_grammar.specs.Identities.{IsNumber}
use Rattle.ring_grammar.specs.private.Reading.{Reads, words_in}
use Rattle.ring_grammar.specs.Spelling.{IsEvent, event_words, line_of}
use Rattle.ring_grammar.proofs.Plain.{is_plain, words_in-line_of}
use Rattle.ring_grammar.proofs.Words.{plain-number}

-- an event with this first word has a name and a number after it
record Asks (words : List (List ℕ)) : Type 0 where
  group : List ℕ
  number : ℕ
  is_name : IsName group
  is_number : IsNumber number
  same : words ≡ group ∷ decimal number ∷ []

-- the first byte of the first word
abbrev first_byte : List (List ℕ) → ℕ
first_byte [] = 0
first_byte ([] ∷ words) = 0
first_byte ((byte ∷ word) ∷ words) = byte

-- no other event has this first word
asks_alone : (event : Event Any) (words : List (List ℕ)) → IsEvent event → codes "who" ∷ words ≡ event_words event → Asks words
asks_alone (Client (Create group kind)) words legal same = let differ : 119 ≡ 99 = ap first_byte same in absurd (omega (arith, differ))
asks_alone (Client (Join group node)) words legal same = let differ : 119 ≡ 106 = ap first_byte same in absurd (omega (arith, differ))
asks_alone (Client (Leave group number)) words legal same = let differ : 119 ≡ 108 = ap first_byte same in absurd (omega (arith, differ))
asks_alone (Client (Start group)) words legal same = let differ : 119 ≡ 115 = ap first_byte same in absurd (omega (arith, differ))
asks_alone (Client (Who group number)) words legal same = record { group = group; number = number; is_name = legal.0; is_number = legal.1; same = cc }
asks_alone (Client (Members group)) words legal same = let differ : 119 ≡ 109 = ap first_byte same in absurd (omega (arith, differ))
asks_alone (Client (Terms group)) words legal same = let differ : 119 ≡ 116 = ap first_byte same in absurd (omega (arith, differ))
asks_alone (Client Groups) words legal same = let differ : 119 ≡ 103 = ap first_byte same in absurd (omega (arith, differ))
asks_alone (Deliver group number side) words legal same = let differ : 119 ≡ 100 = ap first_byte same in absurd (omega (arith, differ))
asks_alone (Cut group number side) words legal same = let differ : 119 ≡ 99 = ap first_byte same in absurd (omega (arith, differ))
asks_alone (Pending group) words legal same = let differ : 119 ≡ 112 = ap first_byte same in absurd (omega (arith, differ))
asks_alone (Drain group count) words legal same = let differ : 119 ≡ 100 = ap first_byte same in absurd (omega (arith, differ))

-- a number is one word
words_in-number : (number : ℕ) → IsNumber number → words_in (decimal number) ≡ decimal number ∷ []
words_in-number number legal = words_in-line_of (decimal number) [] (and_from (is_plain (decimal number)) true (plain-number number legal) refl)

-- a text that is one word is that word
one_word : (text word : List ℕ) → words_in text ≡ word ∷ [] → text ≡ word
one_word text word one = sym (join_with_byte-slice_split 32 text) ∙ ap line_of one

-- a name and a number that are read are a question
pub asked_read : (rest group argument : List ℕ) (name : List ℕ) (number : ℕ) → words_in rest ≡ group ∷ words_in argument → Reads (λ n. n) IsName group (Some name) → Reads decimal IsNumber argument (Some number)
    → Reads event_words IsEvent (codes "who" ∷ words_in rest) (Some (Client (Who name number)))
asked_read rest group argument name number cut named counted =
    let one = words_in-number number counted.0 in
    ((named.0, counted.0), let words : words_in rest ≡ name ∷ decimal number ∷ [] = rw (cut, named.1, counted.1, one) refl in cc)

-- what ends with no number is no question
pub unasked-uncounted : (rest group argument : List ℕ) → words_in rest ≡ group ∷ words_in argument → Reads decimal IsNumber argument None → Reads event_words IsEvent (codes "who" ∷ words_in rest) None
unasked-uncounted rest group argument cut uncounted = λ event legal same.
    let asks = asks_alone event (words_in rest) legal same in
    let two : words_in rest ≡ asks.group ∷ decimal asks.number ∷ [] = asks.same in
    let last : words_in argument ≡ decimal asks.number ∷ [] = cc in
    uncounted asks.number asks.is_number (one_word argument (decimal asks.number) last)

-- what is one word alone is no question
pub unasked-uncut : (rest : List ℕ) → words_in rest ≡ rest ∷ [] → Reads event_words IsEvent (codes "who" ∷ words_in rest) None
unasked-uncut rest uncut = λ event legal same.
    let asks = asks_alone event (words_in rest) legal same in
    let two : words_in rest ≡ asks.group ∷ decimal asks.number ∷ [] = asks.same in
    cc

-- what begins with no name is no question
pub unasked-unnamed : (rest group argument : List ℕ) → words_in rest ≡ group ∷ words_in argument → Reads (λ n. n) IsName group None → Reads event_words IsEvent (codes "who" ∷ words_in rest) None
unasked-unnamed rest group argument cut unnamed = λ event legal same.
    let asks = asks_alone event (words_in rest) legal same in
    let two : words_in rest ≡ asks.group ∷ decimal asks.number ∷ [] = asks.same in
    unnamed asks.group asks.is_name cc
