-- Each change has one spelling, its line is one line, and so is its line in a journal.
use Rattle.std.proofs.Common.{◌≡◌, ◌≢◌, ◌≤◌, ◌+◌, ◌-◌, ◌/◌, ◌%◌, ◌++◌, ℕ, Bool, true, false, List, [], ◌∷◌, length, length-append, get_or, map, sym, ◌∙◌, ap, arith, refl, append-nil, codes, if◌then◌else◌}
use Rattle.std.specs.Prelude.{nat_lt}
use Rattle.std.specs.List.{list_all}
use Rattle.std.proofs.lemmas.Bool.{and_from}
use Rattle.std.proofs.lemmas.Fmt.{decimal_injective}
use Rattle.std.proofs.lemmas.List.Elements.{All-weaker}
use Rattle.std.proofs.lemmas.List.Folds.{list_all-append}
use Rattle.std.proofs.lemmas.List.Sums.{AllPass-from_list_all}
use Rattle.ring_any.specs.declared.any.Any.{Any}
use Rattle.ring_id.specs.GroupName.{IsName}
use Rattle.ring_events.specs.declared.event.Command.{Command}
use Rattle.ring_events.specs.declared.event.Command.TheVariants as command
use Rattle.ring_events.specs.declared.event.Event.TheVariants.{Client}
use Rattle.ring_grammar.specs.Identities.{IsNode, node_word}
use Rattle.ring_grammar.specs.OneSpelling.{HaveOneSpelling}
use Rattle.ring_grammar.specs.Spelling.{IsCommand, IsEvent, Spells, command_words, line_of}
use Rattle.ring_change.specs.Checks.{check_mark, hex_digit, hex_word}
use Rattle.ring_change.specs.Lines.{ChangesAreLines, check_behind, marked_line}
use Rattle.ring_change.specs.declared.change.Change.{Change}
use Rattle.ring_change.specs.declared.change.Change.TheVariants.{Create, Join, Leave, Start, Know}
use Rattle.ring_change.specs.Spelling.{IsChange, SpellsChange, change_line, change_words}
use Rattle.ring_change.specs.private.Parts.{group_in, rest_text, verb_text}
use Rattle.ring_change.specs.private.Reading.{words_in}
use Rattle.ring_change.proofs.Plain.{is_text, plain-change, text_byte, text-line_of, words_in-change}
use Rattle.ring_change.proofs.Short.{short-change}

-- a line in the parts that are put
pub parted : (change : Change Any) → (verb_text change ++ group_in change) ++ rest_text change ≡ change_line change
parted (Create g a) = refl
parted (Join g n) = refl
parted (Leave g n) = refl
parted (Start g) = append-nil (codes "start " ++ g)
parted (Know g t m l) = refl

-- the line of a change that a command made spells that command
spelled : (line : List ℕ) (asks : Command Any) → IsCommand asks → length line ≤ 60 → line ≡ line_of (command_words asks) → Spells line (Client asks)
spelled line asks legal short same = record { short = omega (arith, short); legal = legal; same = same }

-- the first byte of a line
abbrev first_byte : List ℕ → ℕ
first_byte line = get_or line 0 0

module _ (law : HaveOneSpelling IsEvent Spells) where
  -- no two identities have one word
  same_node : (m n : ℕ) → IsNode m → IsNode n → node_word m ≡ node_word n → m ≡ n
  same_node m n p q same =
      let line = line_of (command_words (command.Join (codes "a") m)) in
      let name : IsName (codes "a") = record { some = omega arith; short = omega arith; each = refl } in
      let size = short-change (Join (codes "a") m) (name, p) in
      let one = law.one_value line (Client (command.Join (codes "a") m)) (Client (command.Join (codes "a") n)) (spelled line (command.Join (codes "a") m) (name, p) size refl) (spelled line (command.Join (codes "a") n) (name, q) size (rw same refl)) in
      cc

  -- no line spells two changes
  one_value : (line : List ℕ) (a b : Change Any) → length line ≤ 60 → SpellsChange line a → SpellsChange line b → a ≡ b
  one_value line (Create g j) (Create h k) short p q =
      let one = law.one_value line (Client (command.Create g j)) (Client (command.Create h k)) (spelled line _ p.legal short p.same) (spelled line _ q.legal short q.same) in
      cc
  one_value line (Join g m) (Join h n) short p q =
      let one = law.one_value line (Client (command.Join g m)) (Client (command.Join h n)) (spelled line _ p.legal short p.same) (spelled line _ q.legal short q.same) in
      cc
  one_value line (Leave g m) (Leave h n) short p q =
      let one = law.one_value line (Client (command.Leave g m)) (Client (command.Leave h n)) (spelled line _ p.legal short p.same) (spelled line _ q.legal short q.same) in
      cc
  one_value line (Start g) (Start h) short p q =
      let one = law.one_value line (Client (command.Start g)) (Client (command.Start h)) (spelled line _ p.legal short p.same) (spelled line _ q.legal short q.same) in
      cc
  one_value line (Know g t m l) (Know h u n k) short p q =
      let words : change_words (Know g t m l) ≡ change_words (Know h u n k) =
      sym (words_in-change (Know g t m l) p.legal) ∙ ap words_in (sym p.same ∙ q.same) ∙ words_in-change (Know h u n k) q.legal in
      let term = decimal_injective t u (omega (arith, p.legal.1.1)) (omega (arith, q.legal.1.1)) cc in
      let member = same_node m n p.legal.2 q.legal.2 cc in
      let leader = same_node l k p.legal.3 q.legal.3 cc in
      cc
  one_value line _ _ short p q = absurd (omega (arith, ap first_byte (sym p.same ∙ q.same)))

  -- each change has one spelling, and no line spells two
  pub changes_have_one_spelling : HaveOneSpelling IsChange SpellsChange
  changes_have_one_spelling = record {
    each = λ change legal. (change_line change, record { legal = legal; same = refl });
    one_line = λ a b change p q. p.same ∙ sym q.same;
    one_value = λ line a b p q. one_value line a b (let size = short-change a p.legal in omega (arith, ap length p.same, size)) p q;
  }

-- a digit is no LF and no zero
text-digit : (low : Bool) (n : ℕ) → is_text (if low then 48 + n else 87 + n) ≡ true
text-digit true n = text_byte (48 + n) (λ lf. absurd (omega (arith, lf))) (λ nil. absurd (omega (arith, nil)))
text-digit false n = text_byte (87 + n) (λ lf. absurd (omega (arith, lf))) (λ nil. absurd (omega (arith, nil)))

-- digits are text
text-digits : (numbers : List ℕ) → list_all is_text (map hex_digit numbers) ≡ true
text-digits [] = refl
text-digits (n ∷ numbers) = and_from (is_text (hex_digit n)) (list_all is_text (map hex_digit numbers)) (text-digit (nat_lt n 10) n) (text-digits numbers)

-- a mark is text
text-word : (n : ℕ) → list_all is_text (hex_word n) ≡ true
text-word n =
    text-digits (n / 268435456 ∷ n / 16777216 % 16 ∷ n / 1048576 % 16 ∷ n / 65536 % 16 ∷ n / 4096 % 16 ∷ n / 256 % 16 ∷ n / 16 % 16 ∷ n % 16 ∷ [])

text-mark : (check : ℕ) → list_all is_text (check_mark check) ≡ true
text-mark check = text-word (4294967295 - check)

-- a byte of a text is no LF and no zero
other_byte : (byte : ℕ) → is_text byte ≡ true → (byte ≢ 10) × (byte ≢ 0)
other_byte byte text = (λ lf. let bad : is_text 10 ≡ true = rw lf at text in cc, λ nil. let bad : is_text 0 ≡ true = rw nil at text in cc)

-- the line of a change in a journal is one line
pub changes_are_lines : ChangesAreLines
changes_are_lines check change legal =
    let mark = check_mark (check_behind check change) in
    record {
      short = omega (arith, length-append (change_line change) mark, short-change change legal);
      plain = All-weaker (λ byte. is_text byte ≡ true) (λ byte. (byte ≢ 10) × (byte ≢ 0)) other_byte (marked_line check change)
          (AllPass-from_list_all is_text (marked_line check change) (rw (list_all-append, text-line_of (change_words change) (plain-change change legal)) (text-mark (check_behind check change))));
    }
