-- The first round of a ring is a round: its positions are those of the ring, each with its
-- identity.
use Rattle.std.specs.Prelude.{◌≡◌, ◌+◌, ◌≤◌, ℕ, zero, suc, false, List, [], ◌∷◌, length, Some, slice_get}
use Rattle.std.specs.List.{list_any}
use Rattle.std.proofs.Common.{refl, arith, ap, ◌∙◌}
use Rattle.std.proofs.lemmas.Bool.{or_parts}
use Rattle.std.proofs.lemmas.Bool.Decides.{nat_tests}
use Rattle.ring_roster.specs.Ring.{IsRing, has_number, has_repeat}
use Rattle.ring_peterson.specs.Rounds.{first_round, numbered}
use Rattle.ring_peterson.specs.laws.Positions.{Rises, value_at}
use Rattle.ring_peterson.specs.laws.Values.{AreDifferent, IsApart, IsRound, values}

-- the identities of a ring are all different, also as values
numbered_apart : (p x : ℕ) (ring : List ℕ) → list_any (has_number x) ring ≡ false → IsApart x (values (numbered p ring))
numbered_apart p x [] h = tt
numbered_apart p x (y ∷ ring) h =
    let parts = or_parts (has_number x y) (list_any (has_number x) ring) h in
    let first = parts.0 in
    (λ same. grind (arith, nat_tests), numbered_apart (p + 1) x ring parts.1)

numbered_different : (p : ℕ) (ring : List ℕ) → has_repeat ring ≡ false → AreDifferent (values (numbered p ring))
numbered_different p [] h = tt
numbered_different p (x ∷ ring) h =
    let parts = or_parts (list_any (has_number x) ring) (has_repeat ring) h in
    (numbered_apart (p + 1) x ring parts.0, numbered_different (p + 1) ring parts.1)

-- its positions rise
pub numbered_rises : (p n : ℕ) (ring : List ℕ) → p + length ring ≤ n → Rises p n (numbered p ring)
numbered_rises p n [] h = tt
numbered_rises p n (x ∷ ring) h = (record { from = omega arith; below = omega arith }, numbered_rises (p + 1) n ring (omega arith))

-- the first round of a ring is a round
pub IsRound-first : (ring : List ℕ) → IsRing ring → IsRound (length ring) (first_round ring)
IsRound-first ring h = record { rises = numbered_rises 0 (length ring) ring (omega arith); different = numbered_different 0 ring h.distinct }

-- each position holds its identity
value_at-numbered : (p k i : ℕ) (ring : List ℕ) → i ≡ p + k → value_at (numbered p ring) i ≡ slice_get ring k
value_at-numbered p k i [] e = refl
value_at-numbered p zero i (x ∷ ring) e = grind (arith, nat_tests)
value_at-numbered p (suc k) i (x ∷ ring) e = let rest = value_at-numbered (p + 1) k i ring (omega arith) in grind (arith, nat_tests)

pub value_at-first : (ring : List ℕ) (i me : ℕ) → slice_get ring i ≡ Some me → value_at (first_round ring) i ≡ Some me
value_at-first ring i me here = value_at-numbered 0 i i ring (omega arith) ∙ here

-- it has as many positions as the ring has
pub length-first : (p : ℕ) (ring : List ℕ) → length (numbered p ring) ≡ length ring
length-first p [] = refl
length-first p (x ∷ ring) = ap suc (length-first (p + 1) ring)
