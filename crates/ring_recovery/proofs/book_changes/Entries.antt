-- Each group of a kept book is kept.
use Rattle.std.proofs.Common.{◌≡◌, ℕ, List, ◌∷◌, ◌++◌, Some, None, length, refl, sym, ◌∙◌, arith}
use Rattle.std.proofs.lemmas.Option.{same_Some, slice_get_within}
use Rattle.ring_election.proofs.Members.{slice_get-append_left}
use Rattle.ring_terms.specs.Kept.{IsGroupKept, IsKept}
use Rattle.ring_terms.specs.Object.{GroupView, Object, find}
use Rattle.ring_recovery.proofs.Chartering.{found_at}
use Rattle.ring_recovery.proofs.book_changes.LastGroup.{at_seam, find-here}

-- none of the groups before one has its name
pub unnamed_before : {E : Type 0} (winner : E → List ℕ → ℕ) (old : Object E) (entry : List ℕ × GroupView E) (groups : Object E) → IsKept winner (old ++ entry ∷ groups) → find entry.0 old ≡ None
unnamed_before winner old entry groups kept = elim (find entry.0 old) as (λ found. find entry.0 old ≡ found → find entry.0 old ≡ None) [
  | None ↦ λ none. none
  | Some group ↦ λ some.
      let there = found_at entry.0 old group some in
      let early = kept.apart there.0 entry.0 group (slice_get-append_left old (entry ∷ groups) there.0 (entry.0, group) there.1) in
      let here = kept.apart (length old) entry.0 entry.1 (at_seam old entry groups) in
      let same : there.0 ≡ length old = same_Some there.0 (length old) (sym early ∙ here) in
      absurd (omega (arith, same, slice_get_within old there.0 (entry.0, group) there.1))
] refl

-- each group of a kept book is kept
pub group_kept : {E : Type 0} (winner : E → List ℕ → ℕ) (old : Object E) (entry : List ℕ × GroupView E) (groups : Object E) → IsKept winner (old ++ entry ∷ groups) → IsGroupKept winner entry.1
group_kept winner old entry groups kept = kept.each entry.0 entry.1 (find-here entry.0 entry.1 old groups (unnamed_before winner old entry groups kept))
