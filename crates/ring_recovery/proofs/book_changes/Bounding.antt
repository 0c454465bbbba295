-- The greatest number of changes that lead to a book.
use Rattle.std.proofs.Common.{◌≡◌, ◌≤◌, ◌==◌, ◌+◌, ◌*◌, ℕ, suc, Bool, true, false, cond, List, [], ◌∷◌, ◌++◌, Option, Some, None, length, slice_get, refl, sym, subst, arith, append_assoc, length-append}
use Rattle.std.proofs.lemmas.List.{length-map}
use Rattle.ring_id.specs.Identity.{number_of}
use Rattle.ring_terms.specs.Kept.{IsKept, IsTermKept}
use Rattle.ring_terms.specs.Object.{Object, TermView}
use Rattle.ring_change.specs.declared.change.Change.{Change}
use Rattle.ring_change.specs.declared.change.Change.TheVariants.{Join, Leave, Start}
use Rattle.ring_recovery.specs.BookChanges.{book_changes, group_changes, moves, news, news_of, term_changes, terms_changes}
use Rattle.ring_recovery.specs.private.MostChanges.{most_changes}
use Rattle.ring_recovery.proofs.book_changes.Entries.{group_kept}

module _ (E : Type 0) (name : List ℕ) where
  few_moves : (before others : List ℕ) → length (moves {E = E} name before others) ≤ length before + length others
  few_moves [] others = let join : ℕ → Change E = λ node. Join name node in omega (arith, length-map others join)
  few_moves (node ∷ before) [] = omega (arith, few_moves before [])
  few_moves (node ∷ before) (next ∷ others) =
      elim (next == node) as (λ b. length (cond b (moves {E = E} name before others) (Leave name (number_of node) ∷ moves name before (next ∷ others))) ≤ suc (length before) + suc (length others)) [
        | true ↦ omega (arith, few_moves before others)
        | false ↦ omega (arith, few_moves before (next ∷ others))
      ]

  few_news : (number leader : ℕ) (ring : List ℕ) (marks : List Bool) → length (news {E = E} name number leader ring marks) ≤ length ring
  few_news number leader [] marks = omega arith
  few_news number leader (member ∷ ring) [] = omega arith
  few_news number leader (member ∷ ring) (true ∷ marks) = omega (arith, few_news number leader ring marks)
  few_news number leader (member ∷ ring) (false ∷ marks) = omega (arith, few_news number leader ring marks)

  few_news_of : (number : ℕ) (leader : Option ℕ) (ring : List ℕ) (marks : List Bool) → length (news_of {E = E} name number leader ring marks) ≤ length ring
  few_news_of number None ring marks = omega arith
  few_news_of number (Some leader) ring marks = few_news number leader ring marks

  few_terms : (winner : List ℕ → ℕ) (number : ℕ) (before : List ℕ) (terms : List TermView) (members : List ℕ) → length before ≤ 256 → length members ≤ 256 → ((place : ℕ) (term : TermView) → slice_get terms place ≡ Some term → IsTermKept winner term)
      → length (terms_changes {E = E} name number before terms members) ≤ 512 + 769 * length terms
  few_terms winner number before [] members short few kept = omega (arith, few_moves before members)
  few_terms winner number before (term ∷ terms) members short few kept =
      let ring : length term.ring ≤ 256 = (kept 0 term refl).is_ring.short in
      let rest = few_terms winner (number + 1) term.ring terms members ring few (λ place other there. kept (suc place) other there) in
      let told = few_news_of number term.leader term.ring term.informed in
      let first : length (term_changes {E = E} name number before term) ≤ 769 =
      omega (arith, few_moves before term.ring, told, length-append (moves {E = E} name before term.ring) (Start name ∷ news_of name number term.leader term.ring term.informed)) in
      omega (arith, rest, first, length-append (term_changes {E = E} name number before term) (terms_changes name (number + 1) term.ring terms members))

-- the changes of the groups after some are few
few_groups : {E : Type 0} (winner : E → List ℕ → ℕ) (old groups : Object E) → IsKept winner (old ++ groups) → length (book_changes groups) ≤ most_changes groups
few_groups winner old [] kept = omega arith
few_groups {E} winner old (entry ∷ groups) kept =
    let group = group_kept winner old entry groups kept in
    let first = few_terms E entry.0 (winner entry.1.algorithm) 1 [] entry.1.terms entry.1.members (omega arith) group.few group.each in
    let rest = few_groups winner (old ++ entry ∷ []) groups (subst (λ (all : Object E). IsKept winner all) (sym (append_assoc old (entry ∷ []) groups)) kept) in
    omega (arith, first, rest, length-append (group_changes entry.0 entry.1) (book_changes groups))

-- the changes of a book are few
pub few_changes : {E : Type 0} (winner : E → List ℕ → ℕ) (book : Object E) → IsKept winner book → length (book_changes book) ≤ most_changes book
few_changes winner book kept = few_groups winner [] book kept
