-- The phase of a member is at most the number of its tokens that came home. Few of those had the
-- hops to come far.
use Rattle.ring_id.specs.declared.side.Side.TheVariants.{Left}
use Rattle.ring_hirschberg.specs.laws.Homecomings.{phase_small}
use Rattle.ring_hirschberg.specs.laws.Logarithm.{ceil_log2-least, ceil_log2-reaches}
use Rattle.ring_hirschberg.proofs.phases.phases_are_few.Goals as goal

pub returns-clause-few : goal.returns-clause-few
returns-clause-few c = λ ring family i me is sound here. phase_small ring is i me here Left family sound

pub returns-clause-logarithm : goal.returns-clause-logarithm
returns-clause-logarithm c = λ n. (ceil_log2-reaches n, ceil_log2-least n)
