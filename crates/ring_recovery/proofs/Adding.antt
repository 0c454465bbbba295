-- A recorder with one entry more.
use Rattle.std.proofs.Common.{◌≡◌, ◌<◌, ◌≤◌, ◌+◌, ◌-◌, ◌^◌, ℕ, min, List, [], ◌∷◌, ◌++◌, Option, Some, None, All, length, take, refl, ap, sym, ◌∙◌, subst, arith, append-nil, append_assoc, length-append}
use Rattle.std.proofs.lemmas.List.{take_all, take-append-le}
use Rattle.std.proofs.lemmas.List.Elements.{All-push}
use Rattle.ring_any.specs.declared.any.Any.{Any}
use Rattle.ring_journal.specs.Journals.{Adds, JournalView, settled}
use Rattle.ring_journal.specs.Lines.{whole_lines_of}
use Rattle.ring_journal.specs.Moments.{Moment}
use Rattle.ring_table.specs.declared.entry.Entry.{Entry}
use Rattle.ring_change.specs.declared.change.Change.{Change}
use Rattle.ring_change.specs.Checks.{first_check}
use Rattle.ring_change.specs.Lines.{check_behind, marked_line}
use Rattle.ring_change.specs.Spelling.{IsChange}
use Rattle.ring_lives.specs.Changes.{change_in, changes_of, onto}
use Rattle.ring_recovery.specs.JournalLines.{check_of, journal_lines}
use Rattle.ring_recovery.specs.Life.{IsLife}
use Rattle.ring_recovery.specs.private.Invariant.{IsWritten}
use Rattle.ring_recovery.proofs.Marking.{check_of-push, journal_lines-push, marked_lines-length}

-- there are few entries if there is room for one more
pub room_left : (many other : ℕ) → 0 < min (2 ^ 44 - 1 - many) other → many + 1 < 2 ^ 44
room_left many other some = omega (arith, some)

-- the changes of entries and then one more
pub changes_of-push : (entries : List (Entry Any)) (entry : Entry Any) → changes_of (entries ++ entry ∷ []) ≡ changes_of entries ++ onto (change_in entry) []
changes_of-push [] entry = refl
changes_of-push (first ∷ entries) entry =
    ap (λ (changes : List (Change Any)). onto (change_in first) changes) (changes_of-push entries entry) ∙ onto_more (change_in first) (changes_of entries) (onto (change_in entry) [])
  where
    onto_more : (one : Option (Change Any)) (xs ys : List (Change Any)) → onto one (xs ++ ys) ≡ onto one xs ++ ys
    onto_more None xs ys = refl
    onto_more (Some x) xs ys = refl

pub changes_of-change : (entries : List (Entry Any)) (entry : Entry Any) (change : Change Any) → change_in entry ≡ Some change → changes_of (entries ++ entry ∷ []) ≡ changes_of entries ++ change ∷ []
changes_of-change entries entry change some = changes_of-push entries entry ∙ ap (λ (one : Option (Change Any)). changes_of entries ++ onto one []) some

changes_of-none : (entries : List (Entry Any)) (entry : Entry Any) → change_in entry ≡ None → changes_of (entries ++ entry ∷ []) ≡ changes_of entries
changes_of-none entries entry none = changes_of-push entries entry ∙ ap (λ (one : Option (Change Any)). changes_of entries ++ onto one []) none ∙ append-nil (changes_of entries)

-- the changes of the first entries, of which there are more now
still_first : (entries : List (Entry Any)) (entry : Entry Any) (sure : ℕ) → sure ≤ length entries → length (changes_of (take sure (entries ++ entry ∷ []))) ≡ length (changes_of (take sure entries))
still_first entries entry sure within = ap (λ (first : List (Entry Any)). length (changes_of first)) (take-append-le sure entries (entry ∷ []) within)

-- entries after those that the journal began with, and one more
one_after : (entries first rest : List (Entry Any)) (entry : Entry Any) → entries ≡ first ++ rest → entries ++ entry ∷ [] ≡ first ++ (rest ++ entry ∷ [])
one_after entries first rest entry all = ap (λ (l : List (Entry Any)). l ++ entry ∷ []) all ∙ append_assoc first rest (entry ∷ [])

-- the entry of a change, whose line was added
pub with_change : (life : ℕ) (entries : List (Entry Any)) (entry : Entry Any) (change : Change Any) (old new : JournalView) (check next sure : ℕ) → IsWritten life entries old check sure
    → length entries + 1 < 2 ^ 44 → change_in entry ≡ Some change → IsChange change → Adds old (marked_line check change) new → next ≡ check_behind check change → IsWritten life (entries ++ entry ∷ []) new next sure
with_change life entries entry change old new check next sure written few some legal adds checked =
    let held = written.begun ++ changes_of written.rest in
    let changes : written.begun ++ changes_of (written.rest ++ entry ∷ []) ≡ held ++ change ∷ [] =
    ap (λ (l : List (Change Any)). written.begun ++ l) (changes_of-change written.rest entry change some) ∙ sym (append_assoc written.begun (changes_of written.rest) (change ∷ [])) in
    record {
      counted = written.counted;
      begun = written.begun;
      first = written.first;
      rest = written.rest ++ entry ∷ [];
      all = one_after entries written.first written.rest entry written.all;
      alike = written.alike;
      lines = adds.lines
          ∙ ap (λ (lines : List (List ℕ)). lines ++ marked_line check change ∷ []) written.lines
          ∙ ap (λ (before : ℕ). journal_lines life held ++ marked_line before change ∷ []) written.checked
          ∙ sym (journal_lines-push life held change)
          ∙ ap (journal_lines life) (sym changes);
      legal = subst (λ (all : List (Change Any)). All IsChange all) (sym changes) (All-push IsChange held change written.legal legal);
      checked = checked ∙ ap (λ (before : ℕ). check_behind before change) written.checked ∙ sym (check_of-push first_check held change) ∙ ap (check_of first_check) (sym changes);
      few = omega (arith, few, length-append entries (entry ∷ []));
      more = written.more;
      surely = written.surely;
      within = omega (arith, written.within, length-append written.rest (entry ∷ []));
      kept = omega (arith, written.kept, still_first written.rest entry written.more written.within, ap (λ (disk : Moment). length (whole_lines_of (take disk.kept disk.text))) adds.disk);
    }

-- an entry without a change
pub without_change : (life : ℕ) (entries : List (Entry Any)) (entry : Entry Any) (journal : JournalView) (check sure : ℕ) → IsWritten life entries journal check sure
    → length entries + 1 < 2 ^ 44 → change_in entry ≡ None → IsWritten life (entries ++ entry ∷ []) journal check sure
without_change life entries entry journal check sure written few none =
    let changes : written.begun ++ changes_of (written.rest ++ entry ∷ []) ≡ written.begun ++ changes_of written.rest = ap (λ (l : List (Change Any)). written.begun ++ l) (changes_of-none written.rest entry none) in
    record {
      counted = written.counted;
      begun = written.begun;
      first = written.first;
      rest = written.rest ++ entry ∷ [];
      all = one_after entries written.first written.rest entry written.all;
      alike = written.alike;
      lines = written.lines ∙ ap (journal_lines life) (sym changes);
      legal = subst (λ (all : List (Change Any)). All IsChange all) (sym changes) written.legal;
      checked = written.checked ∙ ap (check_of first_check) (sym changes);
      few = omega (arith, few, length-append entries (entry ∷ []));
      more = written.more;
      surely = written.surely;
      within = omega (arith, written.within, length-append written.rest (entry ∷ []));
      kept = omega (arith, written.kept, still_first written.rest entry written.more written.within);
    }

-- an entry without a change, which is kept since all entries before it are
pub with_question : (life : ℕ) (entries : List (Entry Any)) (entry : Entry Any) (journal : JournalView) (check sure now : ℕ) → IsWritten life entries journal check sure
    → length entries + 1 < 2 ^ 44 → change_in entry ≡ None → sure ≡ length entries → now ≡ length (entries ++ entry ∷ []) → IsWritten life (entries ++ entry ∷ []) journal check now
with_question life entries entry journal check sure now written few none all is =
    let changes : written.begun ++ changes_of (written.rest ++ entry ∷ []) ≡ written.begun ++ changes_of written.rest = ap (λ (l : List (Change Any)). written.begun ++ l) (changes_of-none written.rest entry none) in
    let all_are = one_after entries written.first written.rest entry written.all in
    let long = ap length written.all ∙ length-append written.first written.rest in
    let before : take written.more written.rest ≡ written.rest = take_all written.more written.rest (omega (arith, all, written.surely, long)) in
    let rest = written.rest ++ entry ∷ [] in
    let after : take (length rest) rest ≡ rest = take_all (length rest) rest (omega arith) in
    let same : length (changes_of (take (length rest) rest)) ≡ length (changes_of (take written.more written.rest)) =
    ap (λ (l : List (Entry Any)). length (changes_of l)) after ∙ ap length (changes_of-none written.rest entry none) ∙ ap (λ (l : List (Entry Any)). length (changes_of l)) (sym before) in
    record {
      counted = written.counted;
      begun = written.begun;
      first = written.first;
      rest = rest;
      all = all_are;
      alike = written.alike;
      lines = written.lines ∙ ap (journal_lines life) (sym changes);
      legal = subst (λ (all : List (Change Any)). All IsChange all) (sym changes) written.legal;
      checked = written.checked ∙ ap (check_of first_check) (sym changes);
      few = omega (arith, few, length-append entries (entry ∷ []));
      more = length rest;
      surely = is ∙ ap length all_are ∙ length-append written.first rest;
      within = omega arith;
      kept = omega (arith, written.kept, same);
    }

-- how many lines a journal has
many_lines : (life : ℕ) (begun : List (Change Any)) (rest : List (Entry Any)) → length (journal_lines life (begun ++ changes_of rest)) ≡ 1 + (length begun + length (changes_of rest))
many_lines life begun rest = omega (arith, marked_lines-length first_check (begun ++ changes_of rest), length-append begun (changes_of rest))

-- if all lines are settled, all entries are kept
pub begun : (life : ℕ) (entries : List (Entry Any)) (journal : JournalView) (check sure : ℕ) → IsLife life → length entries < 2 ^ 44 → journal.lines ≡ journal_lines life (changes_of entries) → All IsChange (changes_of entries) → check ≡ check_of first_check (changes_of entries)
    → settled journal ≡ length journal.lines → sure ≡ length entries → IsWritten life entries journal check sure
begun life entries journal check sure counted few lines legal checked all is = record {
  counted = counted;
  begun = [];
  first = [];
  rest = entries;
  all = refl;
  alike = λ groups. (λ leads. leads, λ leads. leads);
  lines = lines;
  legal = legal;
  checked = checked;
  few = few;
  more = length entries;
  surely = omega (arith, is);
  within = omega arith;
  kept = omega (arith, all, ap length lines, many_lines life [] entries, ap (λ (l : List (Entry Any)). length (changes_of l)) (take_all (length entries) entries (omega arith)));
}

-- all entries, once all lines are settled
pub all_kept : (life : ℕ) (entries : List (Entry Any)) (old new : JournalView) (check sure now : ℕ) → IsWritten life entries old check sure → new.lines ≡ old.lines → settled new ≡ length new.lines → now ≡ length entries
    → IsWritten life entries new check now
all_kept life entries old new check sure now written lines all is = record {
  counted = written.counted;
  begun = written.begun;
  first = written.first;
  rest = written.rest;
  all = written.all;
  alike = written.alike;
  lines = lines ∙ written.lines;
  legal = written.legal;
  checked = written.checked;
  few = written.few;
  more = length written.rest;
  surely = is ∙ ap length written.all ∙ length-append written.first written.rest;
  within = omega arith;
  kept = omega (arith, all, ap length (lines ∙ written.lines), many_lines life written.begun written.rest, ap (λ (l : List (Entry Any)). length (changes_of l)) (take_all (length written.rest) written.rest (omega arith)));
}

-- the same lines, of which no fewer are settled
pub same_lines : (life : ℕ) (entries : List (Entry Any)) (old new : JournalView) (check sure : ℕ) → IsWritten life entries old check sure → new.lines ≡ old.lines → settled new ≡ settled old → IsWritten life entries new check sure
same_lines life entries old new check sure written lines settles = record {
  counted = written.counted;
  begun = written.begun;
  first = written.first;
  rest = written.rest;
  all = written.all;
  alike = written.alike;
  lines = lines ∙ written.lines;
  legal = written.legal;
  checked = written.checked;
  few = written.few;
  more = written.more;
  surely = written.surely;
  within = written.within;
  kept = omega (arith, written.kept, settles);
}
