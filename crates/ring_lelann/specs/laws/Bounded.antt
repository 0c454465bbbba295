-- The work of this algorithm is bounded.
use Rattle.std.specs.Prelude.{length}
use Rattle.ring_election.specs.Laws.{Bounded}
use Rattle.ring_election.proofs.Families.{taken_in_all-at_most}
use Rattle.ring_lelann.specs.LeLann.{lelann_bound, lelann_fits, lelann_table}
use Rattle.ring_lelann.specs.laws.Taken.{length-receipts}

-- each of n positions takes at most n messages
pub lelann_bounded : Bounded lelann_table lelann_fits lelann_bound
lelann_bounded = record {
  work_is_bounded = λ ring family is fit sound.
      taken_in_all-at_most (length ring) (length ring) family (λ i below. length-receipts ring i (family i) (fit.at i below));
}
