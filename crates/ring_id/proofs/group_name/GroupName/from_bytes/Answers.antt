-- The bytes of the name come first, and zeros fill the rest.
use Rattle.std.proofs.Common.{◌≡◌, ℕ, List, ◌++◌, length, take, drop, replicate, refl, ap, ◌∙◌, rules}
use Rattle.std.proofs.lemmas.List.{drop-replicate}
use Rattle.std.proofs.Math.Seq.{take-append_seam}
use Rattle.ring_id.specs.GroupName.{IsName, padded}
use Rattle.ring_id.proofs.group_name.GroupName.from_bytes.Goals as goal

-- the fields of a name whose bytes are followed by zeros
filled : (bytes all : List ℕ)
    → IsName bytes
    → all ≡ bytes ++ drop (length bytes) (replicate 16 0)
    → IsName (take (length bytes) all) × (length bytes ≡ length (take (length bytes) all)) × (all ≡ padded (take (length bytes) all))
unfolding padded
filled bytes all name is =
    let front : take (length bytes) all ≡ bytes = ap (take (length bytes)) is ∙ take-append_seam bytes (drop (length bytes) (replicate 16 0)) in
    rw front (name, refl, is ∙ ap (λ (l : List ℕ). bytes ++ l) (drop-replicate {X = ℕ} (length bytes) 16 0))

pub invariant_of-result : goal.invariant_of-result
invariant_of-result c =
    filled _ _ (record { some = search rules; short = search rules; each = search rules })
    (rw c.copy_from_slice.ensures.after refl)

-- refused bytes are no name
pub returns-then-is_empty-clause-taken : goal.returns-then-is_empty-clause-taken
returns-then-is_empty-clause-taken c = search rules
