-- The lines that a restart finds if the crash comes while a journal is settled, and the journal
-- afterwards.
use Rattle.std.proofs.Common.{◌≡◌, ◌+◌, ◌≤◌, ℕ, Bool, false, List, [], ◌++◌, length, take, refl, ap, sym, ◌∙◌, subst, arith, append_assoc, append-nil, length-append}
use Rattle.std.proofs.lemmas.List.{length-take-le, take_all}
use Rattle.ring_journal.specs.Moments.{Grows, MayFind, Moment}
use Rattle.ring_journal.specs.Lines.{text_of, whole_lines_of}
use Rattle.ring_journal.specs.Journals.{Finds, FindsAll, HasAll}
use Rattle.ring_journal.specs.private.Invariant.{IsJournal}
use Rattle.ring_journal.proofs.Finding.{HasNoZero, no_zero_front, no_zero_text}
use Rattle.ring_journal.proofs.Lining.{finds_first, kept_lines, lines_of_text}
use Rattle.ring_journal.proofs.Zeros.{whole_find}

-- A crash comes between a moment and one at which the same lines are written or pending. A restart
-- then finds the first of these lines.
pub crash_finds : (disk : Moment) (batch : List ℕ) (broken : Bool) → (j : IsJournal disk batch broken) → (new : Moment) (rest : List ℕ) → new.text ++ rest ≡ disk.text ++ batch
    → length new.text ≤ disk.kept + 65536
    → (m : Moment) → Grows disk m → Grows m new → (found : List ℕ) → MayFind found m.text m.kept
    → Finds (whole_lines_of (new.text ++ rest)) (length (whole_lines_of (take disk.kept disk.text))) found
crash_finds disk batch broken j new rest same near m from to found find =
    let whole : m.text ++ (to.added ++ rest) ≡ text_of j.lines = sym (append_assoc m.text to.added rest) ∙ ap (λ (t : List ℕ). t ++ rest) (sym to.text) ∙ same ∙ j.whole in
    let first = finds_first j.lines m.text (to.added ++ rest) j.some m.kept found j.are whole j.few (omega (arith, j.kept, from.kept)) find in
    let lines_are : whole_lines_of (new.text ++ rest) ≡ j.lines = ap whole_lines_of (same ∙ j.whole) ∙ lines_of_text j.lines j.are in
    let some_are : length (whole_lines_of (take disk.kept disk.text)) ≡ j.some = ap length (kept_lines j.lines disk.text batch j.some disk.kept j.are j.whole j.few j.kept j.within) ∙ length-take-le j.some j.lines j.few in
    let no_zero = no_zero_front m.text (to.added ++ rest) (subst HasNoZero (sym whole) (no_zero_text j.lines j.are)) in
    let short : length m.text ≤ m.kept + 65536 = omega (arith, near, from.kept, ap length to.text, length-append m.text to.added) in
    record {
      first = rw (lines_are, some_are) first;
      whole = whole_find found m.text m.kept no_zero find short;
    }

-- if the batch follows the kept bytes, no more than a batch is written and not kept
pub near_batch : (disk : Moment) (batch : List ℕ) (j : IsJournal disk batch false) (text : List ℕ) → text ≡ disk.text ++ batch → length text ≤ disk.kept + 65536
near_batch disk batch j text is = omega (arith, j.synced refl, j.short, ap length is, length-append disk.text batch)

pub near_same : (disk : Moment) (batch : List ℕ) (broken : Bool) (j : IsJournal disk batch broken) (text : List ℕ) → text ≡ disk.text → length text ≤ disk.kept + 65536
near_same disk batch broken j text is = omega (arith, j.near, ap length is)

-- a journal whose lines are all written and kept
pub settled_journal : (disk : Moment) (batch : List ℕ) (broken now : Bool) → (j : IsJournal disk batch broken) → (new : Moment) (rest : List ℕ) → rest ≡ [] → new.text ≡ disk.text ++ batch → new.kept ≡ length new.text → IsJournal new rest now
settled_journal disk batch broken now j new rest none text kept =
    let whole : new.text ≡ text_of j.lines = text ∙ j.whole in
    record {
      lines = j.lines;
      some = length j.lines;
      are = j.are;
      whole = ap (λ (r : List ℕ). new.text ++ r) none ∙ append-nil new.text ∙ whole;
      few = omega arith;
      kept = kept ∙ ap length whole ∙ ap (λ (l : List (List ℕ)). length (text_of l)) (sym (take_all (length j.lines) j.lines (omega arith)));
      within = omega (arith, kept);
      synced = λ _. kept;
      near = omega (arith, kept);
      short = omega (arith, ap length none);
    }

-- The same lines are written or pending, and no more are kept. The journal is broken if more was
-- written.
pub broken_journal : (disk : Moment) (batch : List ℕ) (broken now : Bool) → (j : IsJournal disk batch broken) → (new : Moment) (rest : List ℕ) → new.text ++ rest ≡ disk.text ++ batch → new.kept ≡ disk.kept → new.kept ≤ length new.text
    → (now ≡ false → new.kept ≡ length new.text) → length new.text ≤ disk.kept + 65536 → length rest ≤ 65536 → IsJournal new rest now
broken_journal disk batch broken now j new rest same kept within synced near short = record {
  lines = j.lines;
  some = j.some;
  are = j.are;
  whole = same ∙ j.whole;
  few = j.few;
  kept = kept ∙ j.kept;
  within = within;
  synced = synced;
  near = omega (arith, near, kept);
  short = short;
}

-- a journal of lines that are all kept
pub new_journal : (disk : Moment) (batch : List ℕ) → batch ≡ [] → HasAll disk.text → disk.kept ≡ length disk.text → IsJournal disk batch false
new_journal disk batch none has kept =
    let lines = whole_lines_of disk.text in
    record {
      lines = lines;
      some = length lines;
      are = has.are;
      whole = ap (λ (b : List ℕ). disk.text ++ b) none ∙ append-nil disk.text ∙ has.all;
      few = omega arith;
      kept = kept ∙ ap length has.all ∙ ap (λ (l : List (List ℕ)). length (text_of l)) (sym (take_all (length lines) lines (omega arith)));
      within = omega (arith, kept);
      synced = λ _. kept;
      near = omega (arith, kept);
      short = omega (arith, ap length none);
    }

-- if all of a text is kept, a restart finds all of its lines
pub finds_all : (text : List ℕ) → HasAll text → FindsAll text
finds_all text has found find =
    let lines = whole_lines_of text in
    let whole : text ++ [] ≡ text_of lines = append-nil text ∙ has.all in
    let all : length (text_of (take (length lines) lines)) ≡ length text = ap (λ (l : List (List ℕ)). length (text_of l)) (take_all (length lines) lines (omega arith)) ∙ ap length (sym has.all) in
    record {
      first = finds_first lines text [] (length lines) (length text) found has.are whole (omega arith) (omega (arith, all)) find;
      whole = whole_find found text (length text) (subst HasNoZero (sym has.all) (no_zero_text lines has.are)) find (omega arith);
    }
