-- The messages that a node took, if all of them fit: a prefix of the ring read to the left from its
-- left neighbour.
use Rattle.std.specs.Prelude.{◌≡◌, ◌≤◌, ℕ, List, [], ◌∷◌, ◌++◌, length, Some, slice_get}
use Rattle.std.proofs.Common.{◌∙◌, sym, ap, arith}
use Rattle.std.proofs.lemmas.List.{length-append}
use Rattle.ring_id.specs.declared.side.Side.{Side}
use Rattle.ring_id.specs.declared.side.Side.TheVariants.{Left, Right}
use Rattle.ring_roster.specs.Ring.{IsRing, left_of, leftward}
use Rattle.ring_election.specs.Traces.{taken_from}
use Rattle.ring_election.specs.Families.{AllFit}
use Rattle.ring_election.proofs.Families.{length-taken, taken-none_from_right}
use Rattle.ring_election.proofs.Members.{first_part}
use Rattle.ring_election.proofs.Rings.{behind, differs_behind, leftward-left_of, length-leftward}
use Rattle.ring_lelann.specs.LeLann.{lelann_fits}
use Rattle.ring_lelann.specs.laws.Others.{without, without-append, without-last}

-- the messages taken from the left are a prefix of the ring read from the left neighbour on
pub taken-leftward : (ring : List ℕ) (i : ℕ) (receipts : List (Side × ℕ)) → AllFit lelann_fits ring i receipts
    → (rest : List ℕ) × (taken_from Left receipts ++ rest ≡ leftward ring (left_of (length ring) i))
taken-leftward ring i receipts all = first_part (taken_from Left receipts) (leftward ring (left_of (length ring) i)) (all.each Left)

-- that ring is all the others and then the own identity
pub taken-round : (ring : List ℕ) (i me : ℕ) (receipts : List (Side × ℕ)) → slice_get ring i ≡ Some me → AllFit lelann_fits ring i receipts
    → (rest : List ℕ) × (taken_from Left receipts ++ rest ≡ behind ring i ++ me ∷ [])
taken-round ring i me receipts here all =
    let part = taken-leftward ring i receipts all in
    (part.0, part.1 ∙ leftward-left_of ring i me here)

-- without the own identity, the messages taken are a prefix of all the others
pub taken-others : (ring : List ℕ) (i me : ℕ) (receipts : List (Side × ℕ)) → IsRing ring → slice_get ring i ≡ Some me → AllFit lelann_fits ring i receipts
    → (rest : List ℕ) × (without me (taken_from Left receipts) ++ rest ≡ behind ring i)
taken-others ring i me receipts is here all =
    let part = taken-round ring i me receipts here all in (
      without me part.0,
      sym (without-append me (taken_from Left receipts) part.0)
          ∙ ap (without me) part.1
          ∙ without-last me (behind ring i) (λ v. differs_behind ring i me v is here),
    )

-- a position takes no more messages than the ring has members
pub length-receipts : (ring : List ℕ) (i : ℕ) (receipts : List (Side × ℕ)) → AllFit lelann_fits ring i receipts → length receipts ≤ length ring
length-receipts ring i receipts all =
    let part = taken-leftward ring i receipts all in
    let from_right : length (taken_from Right receipts) ≡ 0 = ap length (taken-none_from_right lelann_fits ring i receipts all (λ j k v none. none)) in
    omega (arith, length-taken receipts, ap length part.1, length-append (taken_from Left receipts) part.0, length-leftward ring (left_of (length ring) i))
