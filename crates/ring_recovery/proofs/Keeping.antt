-- The first lines of a journal are those of the changes of the first entries.
use Rattle.std.proofs.Common.{◌≡◌, ◌+◌, ◌-◌, ◌≤◌, ℕ, zero, suc, List, [], ◌∷◌, ◌++◌, Some, None, All, length, take, refl, ap, sym, ◌∙◌, subst, arith, length-append}
use Rattle.std.proofs.lemmas.List.{take-append-le}
use Rattle.std.proofs.Math.Seq.{take-append-add}
use Rattle.std.proofs.lemmas.List.Elements.{All-take}
use Rattle.ring_any.specs.declared.any.Any.{Any}
use Rattle.ring_journal.specs.Journals.{FindsFirst, JournalView}
use Rattle.ring_journal.specs.Lines.{lines_in}
use Rattle.ring_journal.specs.Moments.{Grows, MayFind, Moment}
use Rattle.ring_journal.specs.Whole.{IsWhole}
use Rattle.ring_table.specs.declared.entry.Entry.{Entry}
use Rattle.ring_change.specs.declared.change.Change.{Change}
use Rattle.ring_change.specs.Checks.{first_check}
use Rattle.ring_change.specs.Spelling.{IsChange}
use Rattle.ring_lives.specs.Changes.{change_in, changes_of}
use Rattle.ring_recovery.specs.JournalLines.{heading, journal_lines, marked_lines}
use Rattle.ring_recovery.specs.Life.{IsLife}
use Rattle.ring_recovery.specs.Written.{AreLinesOf, FindsEntries, LeadToSame, LeavesFirst, WrittenView}
use Rattle.ring_recovery.specs.private.Invariant.{IsWritten}
use Rattle.ring_recovery.proofs.Alike.{alike_more}
use Rattle.ring_recovery.proofs.Marking.{marked_lines-length, marked_lines-take}

-- some of the first entries, at least `fewest`, whose changes are the first `many`
pub record FirstChanges (entries : List (Entry Any)) (fewest many : ℕ) : Type 0 where
  pub left : ℕ
  pub least : fewest ≤ left
  pub most : left ≤ length entries
  pub are : take many (changes_of entries) ≡ changes_of (take left entries)

one_more : (entry : Entry Any) (entries : List (Entry Any)) (fewest many : ℕ) → FirstChanges entries fewest many → change_in entry ≡ None → FirstChanges (entry ∷ entries) (suc fewest) many
one_more entry entries fewest many first none = record {
  left = suc first.left;
  least = omega (arith, first.least);
  most = omega (arith, first.most);
  are = rw none first.are;
}

one_change : (entry : Entry Any) (entries : List (Entry Any)) (fewest many : ℕ) (change : Change Any) → FirstChanges entries fewest many → change_in entry ≡ Some change → FirstChanges (entry ∷ entries) (suc fewest) (suc many)
one_change entry entries fewest many change first some = record {
  left = suc first.left;
  least = omega (arith, first.least);
  most = omega (arith, first.most);
  are = rw some (ap (λ (changes : List (Change Any)). change ∷ changes) first.are);
}

fewer : (entries : List (Entry Any)) (fewest many : ℕ) → FirstChanges entries (suc fewest) many → FirstChanges entries fewest many
fewer entries fewest many first = record { left = first.left; least = omega (arith, first.least); most = first.most; are = first.are }

none_taken : (many : ℕ) → take {A = Change Any} many [] ≡ []
none_taken zero = refl
none_taken (suc many) = refl

pub first_changes : (entries : List (Entry Any)) (fewest many : ℕ) → fewest ≤ length entries → length (changes_of (take fewest entries)) ≤ many → many ≤ length (changes_of entries) → FirstChanges entries fewest many
first_changes [] fewest many within least most = record { left = 0; least = omega (arith, within); most = omega arith; are = none_taken many }
first_changes (entry ∷ entries) zero zero within least most = record { left = 0; least = omega arith; most = omega arith; are = refl }
first_changes (entry ∷ entries) zero (suc many) within least most = elim (change_in entry) as (λ change. change_in entry ≡ change → FirstChanges (entry ∷ entries) 0 (suc many)) [
  | None ↦ λ none. fewer (entry ∷ entries) 0 (suc many) (one_more entry entries 0 (suc many) (first_changes entries 0 (suc many) (omega arith) (omega arith) (rw none at most)) none)
  | Some change ↦ λ some. fewer (entry ∷ entries) 0 (suc many) (one_change entry entries 0 many change (first_changes entries 0 many (omega arith) (omega arith) (let m = rw some at most in omega (arith, m))) some)
] refl
first_changes (entry ∷ entries) (suc fewest) zero within least most = elim (change_in entry) as (λ change. change_in entry ≡ change → FirstChanges (entry ∷ entries) (suc fewest) 0) [
  | None ↦ λ none. one_more entry entries fewest 0 (first_changes entries fewest 0 (omega (arith, within)) (rw none at least) (omega arith)) none
  | Some change ↦ λ some. absurd (let l = rw some at least in omega (arith, l))
] refl
first_changes (entry ∷ entries) (suc fewest) (suc many) within least most = elim (change_in entry) as (λ change. change_in entry ≡ change → FirstChanges (entry ∷ entries) (suc fewest) (suc many)) [
  | None ↦ λ none. one_more entry entries fewest (suc many) (first_changes entries fewest (suc many) (omega (arith, within)) (rw none at least) (rw none at most)) none
  | Some change ↦ λ some. one_change entry entries fewest many change (first_changes entries fewest many (omega (arith, within)) (let l = rw some at least in omega (arith, l)) (let m = rw some at most in omega (arith, m))) some
] refl

-- a restart that finds the first lines finds the changes that the journal began with, and those of
-- the first entries after them
from_more : (life : ℕ) (begun : List (Change Any)) (first rest : List (Entry Any)) (more n : ℕ) (found : List ℕ) → IsLife life → LeadToSame begun (changes_of first) → All IsChange (begun ++ changes_of rest) → more ≤ length rest
    → length (changes_of (take more rest)) ≤ n → n ≤ length (changes_of rest) → lines_in found ≡ heading life ∷ take (length begun + n) (marked_lines first_check (begun ++ changes_of rest)) → IsWhole found
    → FindsEntries life (first ++ rest) (length first + more) found
from_more life begun first rest more n found counted alike legal within least most same whole =
    let its = first_changes rest more n within least most in
    let front : take (length begun + n) (begun ++ changes_of rest) ≡ begun ++ changes_of (take its.left rest) = take-append-add begun (changes_of rest) n ∙ ap (λ (l : List (Change Any)). begun ++ l) its.are in
    let left : take (length first + its.left) (first ++ rest) ≡ first ++ take its.left rest = take-append-add first rest its.left in
    record {
      counted = counted;
      left = length first + its.left;
      least = omega (arith, its.least);
      most = omega (arith, its.most, length-append first rest);
      lines = record {
        changes = begun ++ changes_of (take its.left rest);
        are = same ∙ ap (λ (lines : List (List ℕ)). heading life ∷ lines) (marked_lines-take first_check (length begun + n) (begun ++ changes_of rest) ∙ ap (marked_lines first_check) front);
        legal = subst (λ (changes : List (Change Any)). All IsChange changes) front (All-take IsChange (length begun + n) (begun ++ changes_of rest) legal);
        alike = subst (λ (entries : List (Entry Any)). LeadToSame (begun ++ changes_of (take its.left rest)) (changes_of entries)) (sym left) (alike_more begun first (take its.left rest) alike);
      };
      whole = whole;
    }

from_lines : (life : ℕ) (begun : List (Change Any)) (first rest : List (Entry Any)) (more many : ℕ) (found : List ℕ) → IsLife life → LeadToSame begun (changes_of first) → All IsChange (begun ++ changes_of rest) → more ≤ length rest
    → 1 + (length begun + length (changes_of (take more rest))) ≤ many → many ≤ length (journal_lines life (begun ++ changes_of rest)) → lines_in found ≡ take many (journal_lines life (begun ++ changes_of rest)) → IsWhole found
    → FindsEntries life (first ++ rest) (length first + more) found
from_lines life begun first rest more zero found counted alike legal within least most same whole = absurd (omega (arith, least))
from_lines life begun first rest more (suc m) found counted alike legal within least most same whole =
    let n = m - length begun in
    let is : m ≡ length begun + n = omega (arith, least) in
    from_more life begun first rest more n found counted alike legal within
    (omega (arith, least))
    (omega (arith, most, marked_lines-length first_check (begun ++ changes_of rest), length-append begun (changes_of rest)))
    (same ∙ ap (λ (k : ℕ). heading life ∷ take k (marked_lines first_check (begun ++ changes_of rest))) is)
    whole

-- the lines of a journal lead to the groups that the entries lead to
pub its_lines : (life : ℕ) (entries : List (Entry Any)) (journal : JournalView) (check sure : ℕ) → IsWritten life entries journal check sure → AreLinesOf life entries journal.lines
its_lines life entries journal check sure written = record {
  changes = written.begun ++ changes_of written.rest;
  are = written.lines;
  legal = written.legal;
  alike = subst (λ (all : List (Entry Any)). LeadToSame (written.begun ++ changes_of written.rest) (changes_of all)) (sym written.all) (alike_more written.begun written.first written.rest written.alike);
}

-- A crash between these two leaves the changes of the first entries, if the lines stay the same.
pub leaves_lines : (life : ℕ) (entries : List (Entry Any)) (old new : JournalView) (check sure : ℕ) → IsWritten life entries old check sure → new.lines ≡ old.lines → FindsFirst old new
    → (m : Moment) → Grows old.disk m → Grows m new.disk → (found : List ℕ) → MayFind found m.text m.kept → FindsEntries life entries sure found
leaves_lines life entries old new check sure written lines finds m from to found find =
    let its = finds m from to found find in
    let all : new.lines ≡ journal_lines life (written.begun ++ changes_of written.rest) = lines ∙ written.lines in
    let ends = from_lines life written.begun written.first written.rest written.more its.first.many found written.counted written.alike written.legal written.within (omega (arith, written.kept, its.first.least))
    (omega (arith, its.first.most, ap length all)) (its.first.are ∙ ap (take its.first.many) all) its.whole in
    subst (λ (all : List (Entry Any)). FindsEntries life all sure found) (sym written.all)
    (subst (λ (fewest : ℕ). FindsEntries life (written.first ++ written.rest) fewest found) (sym written.surely) ends)

-- One more entry does not change the files that a crash may leave.
pub leaves_more : (old : WrittenView) (life : ℕ) (entry : Entry Any) (items : List (Entry Any)) (disk : Moment) → LeavesFirst old old → life ≡ old.life → items ≡ old.items ++ entry ∷ [] → disk ≡ old.journal.disk
    → (m : Moment) → Grows old.journal.disk m → Grows m disk → (found : List ℕ) → MayFind found m.text m.kept → FindsEntries life items old.sure found
leaves_more old life entry items disk leaves is more same m from to found find =
    let its = leaves m from (subst (λ (d : Moment). Grows m d) same to) found find in
    let front : take its.left items ≡ take its.left old.items = ap (take its.left) more ∙ take-append-le its.left old.items (entry ∷ []) its.most in
    record {
      counted = subst IsLife (sym is) its.counted;
      left = its.left;
      least = its.least;
      most = omega (arith, its.most, ap length more, length-append old.items (entry ∷ []));
      lines = subst (λ (l : ℕ). AreLinesOf l (take its.left items) (lines_in found)) (sym is) (subst (λ (entries : List (Entry Any)). AreLinesOf old.life entries (lines_in found)) (sym front) its.lines);
      whole = its.whole;
    }
