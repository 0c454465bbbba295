-- The work of an election is bounded: a node takes no more messages than its left link has records.
use Rattle.std.proofs.Common.{◌≤◌, ℕ, List, length, sym, ap, ◌∙◌, arith}
use Rattle.std.proofs.lemmas.List.{length-append}
use Rattle.ring_id.specs.declared.side.Side.{Side}
use Rattle.ring_id.specs.declared.side.Side.TheVariants.{Left}
use Rattle.ring_roster.specs.Ring.{left_of, leftward}
use Rattle.ring_election.specs.Traces.{taken_from}
use Rattle.ring_election.specs.Families.{AllFit}
use Rattle.ring_election.specs.Laws.{Bounded}
use Rattle.ring_election.proofs.Families.{length-taken, taken-none_from_right, taken_in_all-at_most}
use Rattle.ring_election.proofs.Members.{first_part}
use Rattle.ring_election.proofs.Rings.{length-leftward}
use Rattle.ring_chang.specs.Chang.{chang_bound, chang_fits, chang_table, records}
use Rattle.ring_chang.specs.laws.Records.{length-records}

-- a position whose receipts fit has taken no more messages than the ring has members
taken_at_most : (ring : List ℕ) (i : ℕ) (receipts : List (Side × ℕ)) → AllFit chang_fits ring i receipts → length receipts ≤ length ring
taken_at_most ring i receipts all =
    let read = leftward ring (left_of (length ring) i) in
    let part = first_part (taken_from Left receipts) (records read) (λ k m taken. all.each Left k m taken) in
    let lengths = sym (length-append (taken_from Left receipts) part.0) ∙ ap length part.1 in
    let none = ap length (taken-none_from_right chang_fits ring i receipts all (λ j k m fits. fits)) in
    omega (arith, length-taken receipts, length-records read, length-leftward ring (left_of (length ring) i))

-- at most n * n messages are taken in all
pub chang_bounded : Bounded chang_table chang_fits chang_bound
chang_bounded = record {
  work_is_bounded = λ ring family is fits sound.
      taken_in_all-at_most (length ring) (length ring) family (λ i below. taken_at_most ring i (family i) (fits.at i below));
}
