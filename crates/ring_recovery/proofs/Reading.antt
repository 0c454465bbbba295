-- A file that is read line by line.
use Rattle.std.proofs.Common.{◌≡◌, ◌+◌, ◌≤◌, ◌==◌, ℕ, true, false, cond, List, [], ◌∷◌, ◌++◌, All, length, refl, ap, sym, ◌∙◌, subst, arith, append_assoc, length-append}
use Rattle.std.proofs.lemmas.List.Elements.{All-push}
use Rattle.ring_any.specs.Any.{any_greatest}
use Rattle.ring_any.specs.declared.any.Any.{Any}
use Rattle.ring_journal.specs.Lines.{front, lines_in, onto_whole, text_of, whole_lines_of}
use Rattle.ring_journal.proofs.Fronts.{front_within}
use Rattle.ring_table.specs.Tables.{RecordedView}
use Rattle.ring_table.specs.declared.entry.Entry.{Entry}
use Rattle.ring_change.specs.declared.change.Change.{Change}
use Rattle.ring_change.specs.Checks.{first_check}
use Rattle.ring_change.specs.Lines.{check_behind, marked_line}
use Rattle.ring_change.specs.Spelling.{IsChange}
use Rattle.ring_lives.specs.Changes.{changes_of}
use Rattle.ring_lives.specs.Replays.{Replays}
use Rattle.ring_recovery.specs.Damage.{IsBadLine, MayCome}
use Rattle.ring_recovery.specs.JournalLines.{check_of, journal_lines}
use Rattle.ring_recovery.specs.Life.{IsLife}
use Rattle.ring_recovery.specs.Recovered.{IsReplayed}
use Rattle.ring_recovery.specs.private.Replaying.{RedoesLine}
use Rattle.ring_recovery.proofs.Adding.{changes_of-change}
use Rattle.ring_recovery.proofs.Marking.{check_of-push, journal_lines-push}

-- The lines before these were carried out. The first of these begins at this place, and `check` is
-- the check before it.
pub record IsRead (found : List ℕ) (rest : List (List ℕ)) (table : RecordedView Any) (check at : ℕ) : Type 0 where
  pub life : ℕ
  pub counted : IsLife life
  pub lines : lines_in found ≡ journal_lines life (changes_of table.history) ++ rest
  pub place : at ≡ length (text_of (journal_lines life (changes_of table.history)))
  pub checked : check ≡ check_of first_check (changes_of table.history)
  pub legal : All IsChange (changes_of table.history)
  pub replayed : All IsReplayed table.history

-- the text of lines and of more
text_of-append : (lines more : List (List ℕ)) → text_of (lines ++ more) ≡ text_of lines ++ text_of more
text_of-append [] more = refl
text_of-append (line ∷ lines) more = ap (λ (text : List ℕ). line ++ 10 ∷ text) (text_of-append lines more) ∙ sym (append_assoc line (10 ∷ text_of lines) (text_of more))

-- the whole lines of a text are no longer than the text
whole_within : (text : List ℕ) → length (text_of (whole_lines_of text)) ≤ length text
whole_within [] = omega arith
whole_within (byte ∷ text) = elim (byte == 10) as (λ b. length (text_of (cond b ([] ∷ whole_lines_of text) (onto_whole byte (whole_lines_of text)))) ≤ length (byte ∷ text)) [
  | true ↦ omega (arith, whole_within text)
  | false ↦ onto_within byte text (whole_lines_of text) (whole_within text)
]
  where
    onto_within : (byte : ℕ) (text : List ℕ) (lines : List (List ℕ)) → length (text_of lines) ≤ length text → length (text_of (onto_whole byte lines)) ≤ length (byte ∷ text)
    onto_within byte text [] within = omega arith
    onto_within byte text (line ∷ lines) within = omega (arith, within)

module _ (found line : List ℕ) (rest : List (List ℕ)) (table : RecordedView Any) (check at : ℕ) (read : IsRead found (line ∷ rest) table check at) where
  -- the next line ends within the file
  pub ends_within : at + (length line + 1) ≤ length found
  ends_within =
      let all = ap text_of read.lines ∙ text_of-append (journal_lines read.life (changes_of table.history)) (line ∷ rest) in
      omega (arith, read.place, ap length all, length-append (text_of (journal_lines read.life (changes_of table.history))) (text_of (line ∷ rest)), length-append line (10 ∷ text_of rest), whole_within (front found), front_within found)

  -- it was carried out
  pub next_line : (new : RecordedView Any) (next now : ℕ) → RedoesLine check line table next new → now ≡ at + (length line + 1) → IsRead found rest new next now
  next_line new next now redoes is =
      let change = redoes.change in
      let more : changes_of new.history ≡ changes_of table.history ++ change ∷ [] = ap changes_of redoes.redoes.added ∙ changes_of-change table.history redoes.redoes.entry change redoes.redoes.made in
      let marked : marked_line check change ≡ marked_line (check_of first_check (changes_of table.history)) change = ap (λ (before : ℕ). marked_line before change) read.checked in
      let lines : journal_lines read.life (changes_of new.history) ≡ journal_lines read.life (changes_of table.history) ++ line ∷ [] =
      ap (journal_lines read.life) more ∙ journal_lines-push read.life (changes_of table.history) change ∙ ap (λ (l : List ℕ). journal_lines read.life (changes_of table.history) ++ l ∷ []) (sym marked ∙ sym redoes.marked.same) in
      let text = ap text_of lines ∙ text_of-append (journal_lines read.life (changes_of table.history)) (line ∷ []) in
      record {
        life = read.life;
        counted = read.counted;
        lines = read.lines ∙ sym (append_assoc (journal_lines read.life (changes_of table.history)) (line ∷ []) rest) ∙ ap (λ (l : List (List ℕ)). l ++ rest) (sym lines);
        place = omega (arith, is, read.place, ap length text, length-append (text_of (journal_lines read.life (changes_of table.history))) (text_of (line ∷ [])), length-append line (10 ∷ []));
        checked = redoes.marked.checked
            ∙ ap (λ (before : ℕ). check_behind before change) read.checked
            ∙ sym (check_of-push first_check (changes_of table.history) change)
            ∙ ap (check_of first_check) (sym more);
        legal = subst (λ (changes : List (Change Any)). All IsChange changes) (sym more) (All-push IsChange (changes_of table.history) change read.legal redoes.marked.legal);
        replayed = subst (λ (history : List (Entry Any)). All IsReplayed history) (sym redoes.redoes.added) (All-push IsReplayed table.history redoes.redoes.entry read.replayed redoes.redoes.replayed);
      }

  -- it may not come
  pub bad_line : Replays any_greatest [] (changes_of table.history) table.book → ((change : Change Any) → IsChange change → line ≡ marked_line check change → MayCome table.book change → ⊥) → IsBadLine found at
  bad_line replays none = record {
    life = read.life;
    before = changes_of table.history;
    groups = table.book;
    line = line;
    after = rest;
    lines = read.lines;
    place = read.place;
    inside = omega (arith, ends_within);
    replays = replays;
    bad = λ change legal same. none change legal (same ∙ ap (λ (before : ℕ). marked_line before change) (sym read.checked));
  }
