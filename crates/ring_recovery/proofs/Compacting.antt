-- A table that is built again by fewer changes.
use Rattle.std.proofs.Common.{◌≡◌, ◌≤◌, ◌+◌, ◌++◌, ◌∷◌, ℕ, zero, suc, List, [], All, Some, length, take, slice_get, refl, ap, sym, ◌∙◌, subst, arith, add-one, length-append}
use Rattle.std.proofs.lemmas.List.Elements.{All-push}
use Rattle.std.proofs.lemmas.Option.{none-some, same_Some}
use Rattle.ring_any.specs.Any.{any_greatest, any_two_way}
use Rattle.ring_any.specs.declared.any.Any.{Any}
use Rattle.ring_journal.specs.Journals.{HasAll}
use Rattle.ring_journal.specs.Lines.{AreLines, IsLine, text_of, whole_lines_of}
use Rattle.ring_journal.proofs.Adding.{are_push, text_of-push}
use Rattle.ring_journal.proofs.Lining.{lines_of_text}
use Rattle.ring_terms.specs.Object.{Object}
use Rattle.ring_table.specs.Histories.{IsLegal}
use Rattle.ring_table.specs.Tables.{RecordedView}
use Rattle.ring_table.specs.declared.entry.Entry.{Entry}
use Rattle.ring_change.specs.declared.change.Change.{Change}
use Rattle.ring_change.specs.Checks.{first_check}
use Rattle.ring_change.specs.Lines.{check_behind, marked_line}
use Rattle.ring_change.specs.Spelling.{IsChange}
use Rattle.ring_lives.specs.Changes.{changes_of}
use Rattle.ring_lives.specs.Replays.{AreExact, HaveTheirEffect, Replays}
use Rattle.ring_recovery.specs.Compacted.{KeepsBook, ResumesAfterFirst}
use Rattle.ring_recovery.specs.JournalLines.{heading, journal_lines}
use Rattle.ring_recovery.specs.Recovered.{IsReplayed, IsTextOf, RecoveredView}
use Rattle.ring_recovery.specs.Restarts.{RestartsAfterFirst}
use Rattle.ring_recovery.specs.private.Rebuilding.{AddsChange, IsOf, IsRebuilt}
use Rattle.ring_recovery.proofs.Adding.{changes_of-change}
use Rattle.ring_recovery.proofs.Marking.{check_of-push, journal_lines-push, plain_line}

-- the first of a list, with one more
pub take_at : {X : Type 0} (xs : List X) (i : ℕ) (x : X) → slice_get xs i ≡ Some x → take (i + 1) xs ≡ take i xs ++ x ∷ []
take_at xs i x at = rw add-one (take_here xs i x at)
  where
    take_here : {X : Type 0} (xs : List X) (i : ℕ) (x : X) → slice_get xs i ≡ Some x → take (suc i) xs ≡ take i xs ++ x ∷ []
    take_here [] i x at = absurd (none-some x at)
    take_here {X} (y ∷ xs) zero x at = ap (λ (z : X). z ∷ []) (same_Some y x at)
    take_here {X} (y ∷ xs) (suc i) x at = ap (λ (rest : List X). y ∷ rest) (take_here xs i x at)

-- a text of lines, and a line more
pub one_line_more : (text line new : List ℕ) → HasAll text → IsLine line → new ≡ text ++ (line ++ 10 ∷ []) → HasAll new × (whole_lines_of new ≡ whole_lines_of text ++ line ∷ [])
one_line_more text line new all is added =
    let lines = whole_lines_of text ++ line ∷ [] in
    let whole : new ≡ text_of lines = added ∙ ap (λ (t : List ℕ). t ++ (line ++ 10 ∷ [])) all.all ∙ sym (text_of-push (whole_lines_of text) line) in
    let are = are_push (whole_lines_of text) line all.are is in
    let same : whole_lines_of new ≡ lines = ap whole_lines_of whole ∙ lines_of_text lines are in
    (record { are = subst AreLines (sym same) are; all = whole ∙ ap text_of (sym same) }, same)

-- no change was carried out yet
pub none_yet : (life : ℕ) (table : RecordedView Any) (check : ℕ) (text : List ℕ) → table.history ≡ [] → check ≡ first_check → HasAll text → whole_lines_of text ≡ heading life ∷ [] → IsRebuilt life [] table check text
none_yet life table check text empty is whole lines = record {
  made = ap changes_of empty;
  each = ap length empty;
  legal = λ place other past. absurd (omega (arith, past));
  replayed = rw empty (λ place other past. absurd (omega (arith, past)));
  checked = is;
  lines = record { whole = whole; lines = lines };
}

-- one change more was carried out
pub one_more : (life : ℕ) (changes : List (Change Any)) (place : ℕ) (change : Change Any) (old new : RecordedView Any) (check next : ℕ) (text more : List ℕ) → slice_get changes place ≡ Some change
    → IsRebuilt life (take place changes) old check text → AddsChange change old new check next text more → IsRebuilt life (take (place + 1) changes) new next more
one_more life changes place change old new check next text more at before adds =
    let first = take place changes in
    let all : first ++ change ∷ [] ≡ take (place + 1) changes = sym (take_at changes place change at) in
    let history = adds.redoes.added in
    let entry = adds.redoes.entry in
    let line = one_line_more text (marked_line check change) more before.lines.whole (plain_line (marked_line check change) adds.whole.plain) adds.added in
    let lines : whole_lines_of more ≡ journal_lines life (first ++ change ∷ []) =
    line.1
    ∙ ap (λ (l : List (List ℕ)). l ++ marked_line check change ∷ []) before.lines.lines
    ∙ ap (λ (b : ℕ). journal_lines life first ++ marked_line b change ∷ []) before.checked
    ∙ sym (journal_lines-push life first change) in
    let rebuilt : IsRebuilt life (first ++ change ∷ []) new next more =
    record {
      made = ap changes_of history ∙ changes_of-change old.history entry change adds.redoes.made ∙ ap (λ (made : List (Change Any)). made ++ change ∷ []) before.made;
      each = ap length history ∙ length-append old.history (entry ∷ []) ∙ ap (λ (n : ℕ). n + 1) before.each ∙ sym (length-append first (change ∷ []));
      legal = All-push IsChange first change before.legal adds.legal;
      replayed = subst (λ (entries : List (Entry Any)). All IsReplayed entries) (sym history) (All-push IsReplayed old.history entry before.replayed adds.redoes.replayed);
      checked = adds.checked ∙ ap (λ (b : ℕ). check_behind b change) before.checked ∙ sym (check_of-push first_check first change);
      lines = record { whole = line.0; lines = lines };
    } in
    subst (λ (made : List (Change Any)). IsRebuilt life made new next more) all rebuilt

module _ (effect : HaveTheirEffect any_two_way any_greatest) (exact : AreExact any_greatest) where
  -- a table keeps its own book
  pub keeps_itself : (table : RecoveredView) → IsLegal any_two_way any_greatest table.history table.book → IsTextOf table.life (changes_of table.history) table.text → All IsChange (changes_of table.history) → KeepsBook table table
  keeps_itself table legal text changes = record {
    same = refl;
    life = refl;
    fewer = omega arith;
    legal = changes;
    text = text;
    history = legal;
    book = effect table.history [] table.book legal;
    replayed = λ replayed. replayed;
  }

  -- a table of fewer changes that lead to the book of another keeps it
  pub keeps_short : (old new : RecoveredView) (changes : List (Change Any)) → IsOf old.life changes new → Replays any_greatest [] changes old.book → length changes ≤ length old.history
      → IsLegal any_two_way any_greatest new.history new.book → IsTextOf new.life (changes_of new.history) new.text → All IsChange (changes_of new.history) → KeepsBook old new
  keeps_short old new changes of leads few legal text all =
      let replays = effect new.history [] new.book legal in
      record {
        same = exact changes [] new.book old.book (subst (λ (made : List (Change Any)). Replays any_greatest [] made new.book) of.made replays) leads;
        life = of.begins;
        fewer = omega (arith, of.each, few);
        legal = all;
        text = text;
        history = legal;
        book = replays;
        replayed = λ _. of.replayed;
      }

-- a table that was compacted leads to the groups that were left
pub resumes : RestartsAfterFirst → ResumesAfterFirst
resumes restarts life entries fewest found resumed finds is =
    let after = restarts life entries fewest found is.recovered finds is.recovers in
    let replays : Replays any_greatest [] (changes_of (take after.left entries)) resumed.book =
    subst (λ (book : Object Any). Replays any_greatest [] (changes_of (take after.left entries)) book) (sym is.keeps.same)
    after.leads in
    record {
      next = is.keeps.life ∙ after.next;
      left = after.left;
      least = after.least;
      most = after.most;
      alike = record { groups = resumed.book; by_first = is.keeps.book; by_second = replays };
      groups = λ groups legal. is.keeps.same ∙ after.groups groups legal;
    }
