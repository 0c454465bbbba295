-- The first line of a journal, and the text of the lines after it.
use Rattle.std.proofs.Common.{◌≡◌, ◌≢◌, ◌∙◌, ◌+◌, ◌-◌, ◌/◌, ◌%◌, ◌≤◌, ℕ, suc, Bool, true, false, if◌then◌else◌, List, [], ◌∷◌, ◌++◌, codes, length, map, take, drop, All, Option, None, Some, IfNone, inl, inr, refl, ap, sym, subst, arith, add-one, append_assoc, length-append}
use Rattle.std.specs.Prelude.{nat_lt}
use Rattle.std.proofs.lemmas.List.{drop-take, length-take-le}
use Rattle.std.specs.Fmt.{decimal}
use Rattle.std.proofs.lemmas.List.Elements.{All-head, All-nil}
use Rattle.std.proofs.lemmas.Fmt.{decimal_is_IsNumeral}
use Rattle.std.proofs.lemmas.Str.Parse.{digit_from_value}
use Rattle.std.specs.Str.Parse.{AllDigits}
use Rattle.ring_any.specs.declared.any.Any.{Any}
use Rattle.ring_journal.specs.Journals.{HasAll}
use Rattle.ring_journal.specs.Lines.{AreLines, IsLine, lines_in, text_of, whole_lines_of}
use Rattle.ring_journal.proofs.Lining.{lines_of_text}
use Rattle.ring_journal.proofs.Testing.{passes_then_line}
use Rattle.ring_table.specs.Tables.{RecordedView}
use Rattle.ring_table.specs.declared.entry.Entry.{Entry}
use Rattle.ring_change.specs.declared.change.Change.{Change}
use Rattle.ring_change.specs.Spelling.{IsChange}
use Rattle.ring_lives.specs.Changes.{changes_of}
use Rattle.ring_change.specs.Checks.{check_after, check_mark, first_check, hex_digit, hex_word}
use Rattle.ring_recovery.specs.JournalLines.{IsZerosAlone, check_of, heading, heading_words, life_word, marked_lines}
use Rattle.ring_recovery.specs.Life.{IsLife}
use Rattle.ring_recovery.specs.Recovered.{HasChanges, IsReplayed}
use Rattle.ring_recovery.specs.private.Reading.{HasRead, HasReplayed, IsHeaded, IsNext, after_first, first_of, first_size}

-- digits are a line
digits_line : (digits : List ℕ) → AllDigits 10 digits → IsLine digits
digits_line [] all = tt
digits_line (c ∷ digits) all = let d = digit_from_value c all.0 in (λ lf. omega (arith, d, lf), λ nul. omega (arith, d, nul), digits_line digits all.1)

-- two lines, one after the other, are a line
line_after : (first rest : List ℕ) → IsLine first → IsLine rest → IsLine (first ++ rest)
line_after [] rest a b = b
line_after (byte ∷ first) rest a b = (a.0, a.1, line_after first rest a.2 b)

-- the digits of a mark are a line
glyph : (low : Bool) (n : ℕ) → ((if low then 48 + n else 87 + n) ≢ 10) × ((if low then 48 + n else 87 + n) ≢ 0)
glyph true n = (λ lf. omega (arith, lf), λ nul. omega (arith, nul))
glyph false n = (λ lf. omega (arith, lf), λ nul. omega (arith, nul))

glyphs_line : (numbers : List ℕ) → IsLine (map hex_digit numbers)
glyphs_line [] = tt
glyphs_line (n ∷ numbers) = let one = glyph (nat_lt n 10) n in (one.0, one.1, glyphs_line numbers)

word_line : (n : ℕ) → IsLine (hex_word n)
word_line n =
    glyphs_line (n / 268435456 ∷ n / 16777216 % 16 ∷ n / 1048576 % 16 ∷ n / 65536 % 16 ∷ n / 4096 % 16 ∷ n / 256 % 16 ∷ n / 16 % 16 ∷ n % 16 ∷ [])

-- the first line of a journal is a line
pub heading_line : (life : ℕ) → IsLife life → IsLine (heading life)
heading_line life counted =
    let check = check_after (check_after first_check heading_words) (decimal life) in
    line_after heading_words (life_word life) (passes_then_line heading_words refl)
    (line_after (decimal life) (check_mark check) (digits_line (decimal life) (decimal_is_IsNumeral life (omega (arith, counted.1))).0.1)
    (line_after (codes " #") (hex_word (4294967295 - check)) (passes_then_line (codes " #") refl) (word_line (4294967295 - check))))

-- the text of a first line, in the pieces in which it is put
pub put_line : (old words number mark : List ℕ) (all more most : List ℕ) (life : ℕ) → all ≡ old ++ words → more ≡ all ++ number → most ≡ more ++ mark → words ≡ heading_words → number ≡ decimal life
    → mark ≡ check_mark (check_after (check_after first_check heading_words) number) → most ++ 10 ∷ [] ≡ old ++ (heading life ++ 10 ∷ [])
put_line old words number mark all more most life first second third is_words is_number is_mark =
    let marked : mark ≡ check_mark (check_after (check_after first_check heading_words) (decimal life)) = is_mark ∙ ap (λ (n : List ℕ). check_mark (check_after (check_after first_check heading_words) n)) is_number in
    let begins : all ≡ old ++ heading_words = first ∙ ap (λ (w : List ℕ). old ++ w) is_words in
    let numbered : more ≡ (old ++ heading_words) ++ decimal life = second ∙ ap (λ (a : List ℕ). a ++ number) begins ∙ ap (λ (n : List ℕ). (old ++ heading_words) ++ n) is_number in
    let whole : most ≡ old ++ heading life =
    third
    ∙ ap (λ (m : List ℕ). m ++ mark) numbered
    ∙ ap (λ (m : List ℕ). ((old ++ heading_words) ++ decimal life) ++ m) marked
    ∙ append_assoc (old ++ heading_words) (decimal life) (check_mark (check_after (check_after first_check heading_words) (decimal life)))
    ∙ append_assoc old heading_words (life_word life) in
    ap (λ (m : List ℕ). m ++ 10 ∷ []) whole ∙ append_assoc old (heading life) (10 ∷ [])

-- no life has a number that none reads
pub none_map : {A P Q : Type 0} (found : Option A) → IfNone found P → (P → Q) → IfNone found Q
none_map None none next = next none
none_map (Some a) none next = tt

-- a first line that was read is the heading that the lines of changes follow
pub headed_of : (found first : List ℕ) (lines : List (List ℕ)) (life start : ℕ) → IsNext first life → lines_in found ≡ first ∷ lines → start ≡ length first + 1 → IsHeaded found start lines
headed_of found first lines life start next all starts = record {
  lives = next.0;
  counted = next.1;
  all = all ∙ ap (λ (line : List ℕ). line ∷ lines) next.2;
  starts = starts ∙ ap (λ (line : List ℕ). length line + 1) next.2;
}

-- a file with a heading, whose changes were carried out
pub replayed_of : (found first : List ℕ) (lines : List (List ℕ)) (life start check : ℕ) (table : RecordedView Any) → IsNext first life → lines_in found ≡ first ∷ lines → start ≡ length first + 1
    → HasRead found table check → HasReplayed found table life start check
replayed_of found first lines life start check table next all starts read =
    let same : heading read.lives ≡ heading next.0 = ap first_of (sym read.lines ∙ all) ∙ next.2 in record {
      lives = next.0;
      next = next.3;
      starts = starts ∙ ap first_size (sym all);
      changes = inl (next.1, read.lines ∙ ap (λ (line : List ℕ). line ∷ marked_lines first_check (changes_of table.history)) same);
      legal = read.legal;
      replayed = read.replayed;
      checked = read.checked;
    }

-- zeros alone have no line
pub zeros_no_lines : (found : List ℕ) → IsZerosAlone found → lines_in found ≡ []
zeros_no_lines [] zeros = refl
zeros_no_lines (byte ∷ found) zeros = ap (λ (first : ℕ). lines_in (first ∷ found)) (All-head (λ (b : ℕ). b ≡ 0) byte found zeros)

-- a new journal, and a table without entries
pub blank_of : (found : List ℕ) (table : RecordedView Any) → IsZerosAlone found → table.history ≡ [] → HasReplayed found table 1 0 first_check
blank_of found table blank none = record {
  lives = 0;
  next = refl;
  starts = ap first_size (sym (zeros_no_lines found blank));
  changes = inr (blank, refl, ap changes_of none);
  legal = subst (λ (history : List (Entry Any)). All IsChange (changes_of history)) (sym none) (All-nil IsChange);
  replayed = subst (λ (history : List (Entry Any)). All IsReplayed history) (sym none) (All-nil IsReplayed);
  checked = ap (λ (history : List (Entry Any)). check_of first_check (changes_of history)) (sym none);
}

-- the lines after the first one are those of the changes
pub after_changes : (found : List ℕ) (lives : ℕ) (changes : List (Change Any)) → HasChanges found lives changes → after_first (lines_in found) ≡ marked_lines first_check changes
after_changes found lives changes (inl lines) = ap after_first lines.1
after_changes found lives changes (inr none) = ap after_first (zeros_no_lines found none.0) ∙ ap (marked_lines first_check) (sym none.2)

-- the text of the lines after the first begins after the first line and its LF
pub size_within : (lines : List (List ℕ)) → first_size lines ≤ length (text_of lines)
size_within [] = omega arith
size_within (line ∷ lines) = omega (arith, length-append line (10 ∷ text_of lines))

drop_line : (line rest : List ℕ) → drop (suc (length line)) (line ++ 10 ∷ rest) ≡ rest
drop_line [] rest = refl
drop_line (byte ∷ line) rest = drop_line line rest

drop_behind : (line rest : List ℕ) → drop (length line + 1) (line ++ 10 ∷ rest) ≡ rest
drop_behind line rest = rw add-one (drop_line line rest)

behind_first : (lines : List (List ℕ)) → drop (first_size lines) (text_of lines) ≡ text_of (after_first lines)
behind_first [] = refl
behind_first (line ∷ lines) = drop_behind line (text_of lines)

are_after : (lines : List (List ℕ)) → AreLines lines → AreLines (after_first lines)
are_after [] are = tt
are_after (line ∷ lines) are = are.1

module _ (found : List ℕ) (whole : ℕ) (all : HasAll (take whole found)) (same : whole_lines_of (take whole found) ≡ lines_in found) where
  its_text : take whole found ≡ text_of (lines_in found)
  its_text = all.all ∙ ap text_of same

  -- the first line is within the whole lines
  pub starts_within : whole ≤ length found → length (take whole found) ≡ whole → first_size (lines_in found) ≤ whole
  starts_within within long = omega (arith, size_within (lines_in found), ap length its_text, long)

  -- the text of a file after another heading
  pub its_parts : (head text old slice : List ℕ) (start : ℕ) → whole ≤ length found → start ≡ first_size (lines_in found) → old ≡ head → slice ≡ take (whole - start) (drop start found) → text ≡ old ++ slice
      → text ≡ head ++ drop (first_size (lines_in found)) (take whole found)
  its_parts head text old slice start within starts is_old is_slice is =
      let long = length-take-le whole found within in
      let fits : start ≤ whole = omega (arith, starts, starts_within within long) in
      let parted : slice ≡ drop start (take whole found) = is_slice ∙ sym (drop-take start (whole - start) found) ∙ ap (λ (n : ℕ). drop start (take n found)) (omega (arith, fits)) in
      is ∙ ap (λ (o : List ℕ). o ++ slice) is_old ∙ ap (λ (s : List ℕ). head ++ s) (parted ∙ ap (λ (k : ℕ). drop k (take whole found)) starts)

  module _ (life : ℕ) (counted : IsLife life) (text : List ℕ) (is : text ≡ (heading life ++ 10 ∷ []) ++ drop (first_size (lines_in found)) (take whole found)) where
    its_lines : AreLines (heading life ∷ after_first (lines_in found))
    its_lines = (heading_line life counted, are_after (lines_in found) (subst AreLines same all.are))

    headed : text ≡ text_of (heading life ∷ after_first (lines_in found))
    headed = is ∙ ap (λ (t : List ℕ). (heading life ++ 10 ∷ []) ++ drop (first_size (lines_in found)) t) its_text ∙ ap (λ (t : List ℕ). (heading life ++ 10 ∷ []) ++ t) (behind_first (lines_in found)) ∙ append_assoc (heading life) (10 ∷ []) (text_of (after_first (lines_in found)))

    -- the lines after another first line
    pub headed_lines : whole_lines_of text ≡ heading life ∷ after_first (lines_in found)
    headed_lines = ap whole_lines_of headed ∙ lines_of_text (heading life ∷ after_first (lines_in found)) its_lines

    pub headed_all : HasAll text
    headed_all = record { are = subst AreLines (sym headed_lines) its_lines; all = headed ∙ ap text_of (sym headed_lines) }
