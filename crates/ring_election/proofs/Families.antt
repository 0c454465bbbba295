-- Lemmas about families of receipts: what goes all round a complete family, and how much was taken.
-- None of them names an algorithm.
use Rattle.std.proofs.Common.{◌≡◌, ◌≢◌, ◌+◌, ◌*◌, ◌<◌, ◌≤◌, ℕ, zero, suc, cond, List, [], ◌∷◌, length, Some, slice_get, get_or, suc-mul, refl, sym, ap, ◌∙◌, subst, arith}
use Rattle.std.proofs.lemmas.Option.{slice_get-get_or, slice_get_within}
use Rattle.ring_id.specs.declared.side.Side.{Side}
use Rattle.ring_id.specs.declared.side.Side.TheVariants.{Left, Right}
use Rattle.ring_id.specs.Sides.{same_side}
use Rattle.ring_roster.specs.Ring.{neighbour, right_of}
use Rattle.ring_election.specs.Tables.{Table}
use Rattle.ring_election.specs.Traces.{sent_after, taken_from}
use Rattle.ring_election.specs.Families.{AllFit, Fitting, IsComplete, taken_in_all}
use Rattle.ring_election.proofs.Members.{IsIn}
use Rattle.ring_election.proofs.Rings.{around, left_of-right_of, neighbour-below}

-- ---- All the way round

-- in a complete family, the right neighbour of a position has taken what that sent to the right
pub taken-right_of : {S M : Type 0} (t : Table S M) (ring : List ℕ) (family : ℕ → List (Side × M)) (i sender : ℕ) → IsComplete t ring family → slice_get ring i ≡ Some sender
    → taken_from Left (family (right_of (length ring) i)) ≡ sent_after t sender Right (family i)
taken-right_of t ring family i sender complete here =
    let below = slice_get_within ring i sender here in
    let back = left_of-right_of (length ring) i below in
    complete.taken (right_of (length ring) i) Left sender (neighbour-below (length ring) i Right below) (ap (slice_get ring) back ∙ here)
    ∙ ap (λ (p : ℕ). sent_after t sender Right (family p)) back

-- In a complete family, let position g send a message to the right, and let each other position
-- pass it on. Then every position takes it from the left.
pub goes_round : {S M : Type 0} (t : Table S M) (ring : List ℕ) (family : ℕ → List (Side × M)) (g me : ℕ) (m : M) → IsComplete t ring family
    → slice_get ring g ≡ Some me
    → IsIn (sent_after t me Right (family g)) m
    → ((j sender : ℕ) → slice_get ring j ≡ Some sender → j ≢ g → IsIn (taken_from Left (family j)) m → IsIn (sent_after t sender Right (family j)) m)
    → (j : ℕ) → j < length ring → IsIn (taken_from Left (family j)) m
goes_round {S} {M} t ring family g me m complete here sent pass =
    around (length ring) g (λ j. IsIn (taken_from Left (family j)) m) (slice_get_within ring g me here)
    (subst (λ (l : List M). IsIn l m) (sym (taken-right_of t ring family g me complete here)) sent)
    (λ j below other h.
    let there = slice_get-get_or ring j 0 below in
    subst (λ (l : List M). IsIn l m) (sym (taken-right_of t ring family j (get_or ring j 0) complete there)) (pass j (get_or ring j 0) there other h))

-- ---- How much was taken

-- what was taken came from one side or from the other
pub length-taken : {M : Type 0} (receipts : List (Side × M)) → length (taken_from Left receipts) + length (taken_from Right receipts) ≡ length receipts
length-taken [] = refl
length-taken {M} (r ∷ rs) =
    let rest = length-taken rs in
    elim r.0 as (λ side. length (cond (same_side Left side) (r.1 ∷ taken_from Left rs) (taken_from Left rs)) + length (cond (same_side Right side) (r.1 ∷ taken_from Right rs) (taken_from Right rs)) ≡ suc (length rs))
    [ Left ↦ omega arith | Right ↦ omega arith ]

-- if nothing fits on a left link, a position whose receipts fit has taken nothing from the right
pub taken-none_from_right : {M : Type 0} (fits : Fitting M) (ring : List ℕ) (i : ℕ) (receipts : List (Side × M)) → AllFit fits ring i receipts
    → ((j k : ℕ) (m : M) → fits ring j Left k m → ⊥)
    → taken_from Right receipts ≡ []
taken-none_from_right {M} fits ring i receipts all none = at (taken_from Right receipts) refl
  where
    at : (taken : List M) → taken_from Right receipts ≡ taken → taken ≡ []
    at [] e = refl
    at (m ∷ ms) e = absurd (none (neighbour (length ring) i Right) 0 m (all.each Right 0 m (ap (λ (l : List M). slice_get l 0) e)))

-- if each position has taken at most c messages, n of them have taken at most n times c
pub taken_in_all-at_most : {M : Type 0} (n c : ℕ) (family : ℕ → List (Side × M)) → ((i : ℕ) → i < n → length (family i) ≤ c) → taken_in_all n family ≤ n * c
taken_in_all-at_most zero c family each = omega arith
taken_in_all-at_most (suc n) c family each =
    let before = taken_in_all-at_most n c family (λ i below. each i (omega arith)) in
    let here = each n (omega arith) in
    omega (arith, suc-mul n c)
