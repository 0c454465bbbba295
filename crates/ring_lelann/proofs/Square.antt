-- Where every message was taken, the identity of each position came home, and it is the last of the
-- n that may come.
use Rattle.std.proofs.Common.{◌≡◌, ◌*◌, ◌<◌, ℕ, zero, suc, List, [], ◌∷◌, ◌++◌, length, Some, slice_get, get_or, suc-mul, sym, ap, ◌∙◌, subst, arith}
use Rattle.std.proofs.lemmas.List.{length-append}
use Rattle.std.proofs.lemmas.Option.{slice_get-get_or, slice_get_within}
use Rattle.ring_id.specs.declared.side.Side.{Side}
use Rattle.ring_id.specs.declared.side.Side.TheVariants.{Left}
use Rattle.ring_roster.specs.Ring.{IsRing, left_of, leftward}
use Rattle.ring_election.specs.Traces.{taken_from}
use Rattle.ring_election.specs.Families.{AllFit, FamilyFits, IsComplete, taken_in_all}
use Rattle.ring_election.proofs.Families.{length-taken}
use Rattle.ring_election.proofs.Members.{IsIn, slice_get-append_right}
use Rattle.ring_election.proofs.Rings.{behind, leftward-is_ring, leftward-left_of, length-leftward, same_position}
use Rattle.ring_lelann.specs.LeLann.{lelann_fits, lelann_table}
use Rattle.ring_lelann.specs.laws.Deciding.{comes_home}
use Rattle.ring_lelann.specs.laws.Taken.{length-receipts}

-- a position to which its own identity came has taken as many messages as the ring has members
taken-all : (ring : List ℕ) (i me : ℕ) (receipts : List (Side × ℕ)) → IsRing ring → slice_get ring i ≡ Some me → AllFit lelann_fits ring i receipts
    → IsIn (taken_from Left receipts) me → length receipts ≡ length ring
taken-all ring i me receipts is here all home =
    let read = leftward ring (left_of (length ring) i) in
    let whole = leftward-left_of ring i me here in
    let last : slice_get read (length (behind ring i)) ≡ Some me =
    subst (λ (l : List ℕ). slice_get l (length (behind ring i)) ≡ Some me) (sym whole)
    (subst (λ (k : ℕ). slice_get (behind ring i ++ me ∷ []) k ≡ Some me) (omega arith) (slice_get-append_right (behind ring i) (me ∷ []) 0)) in
    let came : slice_get read home.place ≡ Some me = all.each Left home.place me home.there in
    let place = same_position read home.place (length (behind ring i)) me (leftward-is_ring ring (left_of (length ring) i) is) came last in
    let within = slice_get_within (taken_from Left receipts) home.place me home.there in
    let long = ap length whole ∙ length-append (behind ring i) (me ∷ []) in
    omega (arith, length-taken receipts, length-leftward ring (left_of (length ring) i), length-receipts ring i receipts all)

-- if each position took exactly c messages, n of them took n times c
taken_in_all-exactly : {M : Type 0} (n c : ℕ) (family : ℕ → List (Side × M)) → ((i : ℕ) → i < n → length (family i) ≡ c) → taken_in_all n family ≡ n * c
taken_in_all-exactly zero c family each = omega arith
taken_in_all-exactly (suc n) c family each =
    let before = taken_in_all-exactly n c family (λ i below. each i (omega arith)) in
    let here = each n (omega arith) in
    omega (arith, suc-mul n c)

-- in a complete family that fits, n² messages were taken
pub taken-square : (ring : List ℕ) (family : ℕ → List (Side × ℕ)) → IsRing ring → FamilyFits lelann_fits ring family → IsComplete lelann_table ring family
    → taken_in_all (length ring) family ≡ length ring * length ring
taken-square ring family is fits complete =
    taken_in_all-exactly (length ring) (length ring) family
    (λ i inside.
    let there = slice_get-get_or ring i 0 inside in
    taken-all ring i (get_or ring i 0) (family i) is there (fits.at i inside) (comes_home ring family i (get_or ring i 0) is complete there))
