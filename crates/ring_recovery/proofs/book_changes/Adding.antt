-- Changes are added one after another.
use Rattle.std.proofs.Common.{◌≡◌, ◌+◌, ◌≤◌, ℕ, zero, suc, List, [], ◌∷◌, ◌++◌, Some, None, drop, take, length, slice_get, ap, sym, ◌∙◌, subst, arith, append_assoc, add-one}
use Rattle.std.specs.Prelude.{Result, Ok, Err, OnOk}
use Rattle.std.proofs.lemmas.List.{append-nil, drop_all, take-append-drop}
use Rattle.std.proofs.lemmas.Option.{none-some, same_Some}
use Rattle.ring_terms.specs.Kept.{IsGroupKept, IsKept}
use Rattle.ring_terms.specs.Object.{GroupView, Object, TermView}
use Rattle.ring_change.specs.declared.change.Change.{Change}
use Rattle.ring_recovery.specs.BookChanges.{book_changes, group_changes, moves, term_changes, terms_changes}
use Rattle.ring_recovery.proofs.book_changes.Entries.{group_kept}

-- the rest of a list from a place on
pub drop_at : {X : Type 0} (xs : List X) (i : ℕ) (x : X) → slice_get xs i ≡ Some x → drop i xs ≡ x ∷ drop (i + 1) xs
drop_at xs i x at = rw add-one (drop_here xs i x at)
  where
    drop_here : {X : Type 0} (xs : List X) (i : ℕ) (x : X) → slice_get xs i ≡ Some x → drop i xs ≡ x ∷ drop (suc i) xs
    drop_here [] i x at = absurd (none-some x at)
    drop_here {X} (y ∷ xs) zero x at = ap (λ (z : X). z ∷ xs) (same_Some y x at)
    drop_here (y ∷ xs) (suc i) x at = drop_here xs i x at

-- some were added, and the rest is left
pub added : {X : Type 0} (before now more rest all : List X) → now ≡ before ++ more → before ++ (more ++ rest) ≡ all → now ++ rest ≡ all
added {X} before now more rest all is whole = ap (λ (xs : List X). xs ++ rest) is ∙ append_assoc before more rest ∙ whole

-- a fact after a call that succeeded, from another fact that implies it
pub where_ok : {A B P Q : Type 0} (answer : Result A B) → OnOk answer P → (P → Q) → OnOk answer Q
where_ok (Ok a) is then = then is
where_ok (Err b) is then = tt

-- the changes of one more term were added
pub term_added : {E : Type 0} (name : List ℕ) (place number : ℕ) (before passed ring : List ℕ) (terms : List TermView) (term : TermView) (members : List ℕ) (was now all : List (Change E)) → slice_get terms place ≡ Some term → number ≡ place + 1
    → ring ≡ term.ring → passed ≡ before → now ≡ was ++ term_changes name number passed term → was ++ terms_changes name (place + 1) before (drop place terms) members ≡ all
    → now ++ terms_changes name (place + 1 + 1) ring (drop (place + 1) terms) members ≡ all
term_added {E} name place number before passed ring terms term members was now all at numbered same passes is story =
    let whole = subst (λ (left : List TermView). was ++ terms_changes name (place + 1) before left members ≡ all) (drop_at terms place term at) story in
    let one = subst (λ (n : ℕ). now ≡ was ++ term_changes name n before term) numbered (subst (λ (members : List ℕ). now ≡ was ++ term_changes name number members term) passes is) in
    subst (λ (r : List ℕ). now ++ terms_changes name (place + 1 + 1) r (drop (place + 1) terms) members ≡ all) (sym same)
    (added was now (term_changes name (place + 1) before term) (terms_changes name (place + 1 + 1) term.ring (drop (place + 1) terms) members) all one whole)

-- after the last term the present members are left
pub members_added : {E : Type 0} (name : List ℕ) (place number : ℕ) (before passed : List ℕ) (terms : List TermView) (members given : List ℕ) (was now all : List (Change E)) → slice_get terms place ≡ None
    → was ++ terms_changes name number before (drop place terms) members ≡ all → passed ≡ before → given ≡ members → now ≡ was ++ moves name passed given → now ≡ all
members_added {E} name place number before passed terms members given was now all past story passes gives is =
    is ∙ (λ j. was ++ moves name (passes j) (gives j)) ∙ subst (λ (left : List TermView). was ++ terms_changes name number before left members ≡ all) (drop_past terms place past) story
  where
    drop_past : (xs : List TermView) (i : ℕ) → slice_get xs i ≡ None → drop i xs ≡ []
    drop_past [] i none = drop_all i [] (omega arith)
    drop_past (x ∷ xs) zero none = absurd (none-some x (sym none))
    drop_past (x ∷ xs) (suc i) none = drop_past xs i none

-- the changes of one more group were added
pub group_added : {E : Type 0} (book : Object E) (place : ℕ) (entry : List ℕ × GroupView E) (was now all : List (Change E)) → slice_get book place ≡ Some entry
    → now ≡ was ++ group_changes entry.0 entry.1 → was ++ book_changes (drop place book) ≡ all → now ++ book_changes (drop (place + 1) book) ≡ all
group_added {E} book place entry was now all at is story =
    let whole = subst (λ (left : Object E). was ++ book_changes left ≡ all) (drop_at book place entry at) story in
    added was now (group_changes entry.0 entry.1) (book_changes (drop (place + 1) book)) all is whole

-- after the last group nothing is left
pub groups_added : {E : Type 0} (book : Object E) (place : ℕ) (now all : List (Change E)) → length book ≤ place → now ++ book_changes (drop place book) ≡ all → now ≡ all
groups_added {E} book place now all past story =
    sym (append-nil now) ∙ subst (λ (left : Object E). now ++ book_changes left ≡ all) (drop_all place book past) story

-- the group at a place of a kept book is kept
pub entry_kept : {E : Type 0} (winner : E → List ℕ → ℕ) (book : Object E) (place : ℕ) (entry : List ℕ × GroupView E) → IsKept winner book → slice_get book place ≡ Some entry → IsGroupKept winner entry.1
entry_kept {E} winner book place entry kept at =
    let split : book ≡ take place book ++ entry ∷ drop (place + 1) book = sym (take-append-drop place book) ∙ ap (λ (rest : Object E). take place book ++ rest) (drop_at book place entry at) in
    group_kept winner (take place book) entry (drop (place + 1) book) (subst (λ (all : Object E). IsKept winner all) split kept)
