-- The changes of a book lead to it.
use Rattle.std.proofs.Common.{ℕ, Bool, List, [], ◌∷◌, ◌++◌, refl, sym, subst, append_assoc}
use Rattle.std.proofs.lemmas.List.{append-nil}
use Rattle.ring_terms.specs.Kept.{IsKept}
use Rattle.ring_terms.specs.Object.{Object, new_group}
use Rattle.ring_lives.specs.Replays.{Replays}
use Rattle.ring_recovery.specs.BookChanges.{book_changes, group_changes}
use Rattle.ring_recovery.proofs.Alike.{chain}
use Rattle.ring_recovery.proofs.book_changes.Entries.{group_kept, unnamed_before}
use Rattle.ring_recovery.proofs.book_changes.LastGroup.{after}
use Rattle.ring_recovery.proofs.book_changes.Starting.{MayLead, story}

module _ {E : Type 0} (greatest : E → Bool) (winner : E → List ℕ → ℕ) (leads : (algorithm : E) → MayLead (greatest algorithm) (winner algorithm)) where
  -- the changes of the groups after some lead to all of them
  leading : (old groups : Object E) → IsKept winner (old ++ groups) → Replays greatest old (book_changes groups) (old ++ groups)
  leading old [] kept = append-nil old
  leading old (entry ∷ groups) kept =
      let free = unnamed_before winner old entry groups kept in
      let group = group_kept winner old entry groups kept in
      let told = story greatest winner entry.0 old free entry.1.algorithm (leads entry.1.algorithm) [] [] entry.1.terms entry.1.members 1 refl refl group.each in
      let further = leading (old ++ entry ∷ []) groups (subst (λ (all : Object E). IsKept winner all) (sym (append_assoc old (entry ∷ []) groups)) kept) in
      chain greatest (group_changes entry.0 entry.1) (book_changes groups) old (old ++ entry ∷ []) (old ++ entry ∷ groups)
      (after old entry.0 (new_group entry.1.algorithm), refl, told)
      (subst (λ (all : Object E). Replays greatest (old ++ entry ∷ []) (book_changes groups) all) (append_assoc old (entry ∷ []) groups) further)

  -- the changes of a book lead to it
  pub leads_to : (book : Object E) → IsKept winner book → Replays greatest [] (book_changes book) book
  leads_to book kept = leading [] book kept
