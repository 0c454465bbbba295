-- A short text of changes, and a journal that it takes the place of.
use Rattle.std.proofs.Common.{◌≡◌, ◌⊎◌, ◌<◌, ◌≤◌, ◌+◌, ◌^◌, ◌++◌, ◌∷◌, inl, inr, ℕ, List, [], All, Some, length, take, slice_get, refl, ap, sym, ◌∙◌, subst, arith, append-nil, length-append}
use Rattle.std.proofs.lemmas.List.Elements.{All-push}
use Rattle.ring_any.specs.Any.{any_greatest, any_two_way}
use Rattle.ring_any.specs.declared.any.Any.{Any}
use Rattle.ring_journal.specs.Journals.{HasAll, JournalView, settled}
use Rattle.ring_journal.specs.Lines.{whole_lines_of}
use Rattle.ring_journal.specs.Moments.{Grows, MayFind, Moment}
use Rattle.ring_terms.specs.Object.{Object}
use Rattle.ring_table.specs.Histories.{IsLegal}
use Rattle.ring_table.specs.declared.entry.Entry.{Entry}
use Rattle.ring_change.specs.declared.change.Change.{Change}
use Rattle.ring_change.specs.Checks.{first_check}
use Rattle.ring_change.specs.Lines.{check_behind, marked_line}
use Rattle.ring_change.specs.Spelling.{IsChange}
use Rattle.ring_recovery.specs.BookChanges.{book_changes}
use Rattle.ring_lives.specs.Replays.{AreExact, HaveTheirEffect}
use Rattle.ring_recovery.specs.JournalLines.{check_of, heading, journal_lines}
use Rattle.ring_recovery.specs.Life.{IsLife}
use Rattle.ring_recovery.specs.Written.{FindsEntries, LeavesFirst, WrittenView}
use Rattle.ring_recovery.specs.private.Invariant.{IsWritten}
use Rattle.ring_recovery.specs.private.Shortening.{AddsLine, IsShort, IsSpelled, IsStandIn}
use Rattle.ring_recovery.proofs.Alike.{alike_legal}
use Rattle.ring_recovery.proofs.Compacting.{one_line_more, take_at}
use Rattle.ring_recovery.proofs.Marking.{check_of-push, journal_lines-push, marked_lines-length, plain_line}

-- no line of a change was added yet
pub none_spelled : (life check : ℕ) (text : List ℕ) → check ≡ first_check → HasAll text → whole_lines_of text ≡ heading life ∷ [] → IsSpelled life [] check text
none_spelled life check text is whole lines = record {
  legal = λ place other past. absurd (omega (arith, past));
  checked = is;
  lines = record { whole = whole; lines = lines };
}

-- one line more was added
pub more_spelled : (life : ℕ) (changes : List (Change Any)) (place : ℕ) (change : Change Any) (check next : ℕ) (text more : List ℕ) → slice_get changes place ≡ Some change
    → IsSpelled life (take place changes) check text → AddsLine change check next text more → IsSpelled life (take (place + 1) changes) next more
more_spelled life changes place change check next text more at before adds =
    let first = take place changes in
    let all : first ++ change ∷ [] ≡ take (place + 1) changes = sym (take_at changes place change at) in
    let line = one_line_more text (marked_line check change) more before.lines.whole (plain_line (marked_line check change) adds.whole.plain) adds.added in
    let lines : whole_lines_of more ≡ journal_lines life (first ++ change ∷ []) =
    line.1
    ∙ ap (λ (l : List (List ℕ)). l ++ marked_line check change ∷ []) before.lines.lines
    ∙ ap (λ (b : ℕ). journal_lines life first ++ marked_line b change ∷ []) before.checked
    ∙ sym (journal_lines-push life first change) in
    let spelled : IsSpelled life (first ++ change ∷ []) next more =
    record {
      legal = All-push IsChange first change before.legal adds.legal;
      checked = adds.checked ∙ ap (λ (b : ℕ). check_behind b change) before.checked ∙ sym (check_of-push first_check first change);
      lines = record { whole = line.0; lines = lines };
    } in
    subst (λ (made : List (Change Any)). IsSpelled life made next more) all spelled

-- the changes of a book can take the place of those of its history
pub stand_in : HaveTheirEffect any_two_way any_greatest → AreExact any_greatest → (life : ℕ) (entries : List (Entry Any)) (groups : Object Any) (check : ℕ) (text : List ℕ) → IsShort life groups check text → IsLegal any_two_way any_greatest entries groups
    → IsStandIn life entries check text
stand_in effect exact life entries groups check text short legal = record {
  changes = book_changes groups;
  spelled = short.spelled;
  alike = alike_legal effect exact (book_changes groups) entries groups short.leads legal;
}

-- a journal that begins with a text that leads to the groups of all entries
pub rewritten : (life : ℕ) (entries : List (Entry Any)) (journal : JournalView) (check : ℕ) (text : List ℕ) (now : ℕ) → IsLife life → length entries < 2 ^ 44 → IsStandIn life entries check text → journal.lines ≡ whole_lines_of text → settled journal ≡ length journal.lines
    → now ≡ length entries → IsWritten life entries journal check now
rewritten life entries journal check text now counted few stands lines all is =
    let whole : stands.changes ++ [] ≡ stands.changes = append-nil stands.changes in
    let its : journal.lines ≡ journal_lines life stands.changes = lines ∙ stands.spelled.lines.lines in
    record {
      counted = counted;
      begun = stands.changes;
      first = entries;
      rest = [];
      all = sym (append-nil entries);
      alike = stands.alike;
      lines = its ∙ ap (journal_lines life) (sym whole);
      legal = subst (λ (changes : List (Change Any)). All IsChange changes) (sym whole) stands.spelled.legal;
      checked = stands.spelled.checked ∙ ap (check_of first_check) (sym whole);
      few = few;
      more = 0;
      surely = omega (arith, is);
      within = omega arith;
      kept = omega (arith, all, ap length its, marked_lines-length first_check stands.changes);
    }

here : (moment : Moment) → Grows moment moment
here moment = record { added = []; text = sym (append-nil moment.text); kept = omega arith; other = refl }

-- no fewer are kept if all are
pub sure_within : (life : ℕ) (entries : List (Entry Any)) (journal : JournalView) (check sure now : ℕ) → IsWritten life entries journal check sure → now ≡ length entries → sure ≤ now
sure_within life entries journal check sure now written is = omega (arith, is, written.surely, written.within, ap length written.all, length-append written.first written.rest)

-- a crash leaves the first entries by the old text and by the new one
pub leaves_either : (old : WrittenView) (life : ℕ) (items : List (Entry Any)) (sure : ℕ) (disk : Moment) → LeavesFirst old old
    → ((m : Moment) → Grows disk m → Grows m disk → (found : List ℕ) → MayFind found m.text m.kept → FindsEntries life items sure found)
    → life ≡ old.life → items ≡ old.items → old.sure ≤ sure
    → (found : List ℕ) → MayFind found old.journal.disk.text old.journal.disk.kept ⊎ MayFind found disk.text disk.kept → FindsEntries life items old.sure found
leaves_either old life items sure disk before after lives are more found (inl find) =
    subst (λ (l : ℕ). FindsEntries l items old.sure found) (sym lives)
    (subst (λ (entries : List (Entry Any)). FindsEntries old.life entries old.sure found) (sym are) (before old.journal.disk (here old.journal.disk) (here old.journal.disk) found find))
leaves_either old life items sure disk before after lives are more found (inr find) =
    let its = after disk (here disk) (here disk) found find in
    record { counted = its.counted; left = its.left; least = omega (arith, more, its.least); most = its.most; lines = its.lines; whole = its.whole }
