-- The rounds of a ring shrink to one, which the messages of its links follow.
use Rattle.std.specs.Prelude.{length}
use Rattle.std.proofs.Common.{◌∙◌, ap, arith}
use Rattle.ring_peterson.specs.Rounds.{Round, first_round}
use Rattle.ring_peterson.specs.laws.FirstRound.{numbered_rises}
use Rattle.ring_peterson.specs.laws.Lawful.{ring_last}
use Rattle.ring_peterson.specs.laws.Literal.{messages_by_rounds, rounds_halve}
use Rattle.ring_peterson.specs.laws.Reading.{last_round-walk}
use Rattle.ring_peterson.proofs.Logarithm.{logarithm_is_greatest}
use Rattle.ring_peterson.proofs.rounds.rounds_shrink.Goals as goal

pub returns-clause-shrink : goal.returns-clause-shrink
returns-clause-shrink c = rounds_halve

pub returns-clause-last : goal.returns-clause-last
returns-clause-last c = λ ring is_ring.
    let last = ring_last ring is_ring in
    ap (λ (round : Round). length round)
    (last_round-walk (length ring) (length ring) (first_round ring) (numbered_rises 0 (length ring) ring (omega arith)) ∙ last.alone)

pub returns-clause-messages : goal.returns-clause-messages
returns-clause-messages c = messages_by_rounds

pub returns-clause-logarithm : goal.returns-clause-logarithm
returns-clause-logarithm c = logarithm_is_greatest
