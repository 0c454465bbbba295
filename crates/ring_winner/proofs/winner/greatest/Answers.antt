-- One member after the other.
use Rattle.std.proofs.Common.{rules}
use Rattle.ring_roster.specs.Ring.{greatest_of}
use Rattle.ring_winner.proofs.Greatest.{greatest_of_all, greatest_one_more}
use Rattle.ring_winner.proofs.winner.greatest.Goals as goal

pub loop-position-preserved : goal.loop-position-preserved
loop-position-preserved c = greatest_one_more c.args.roster.now c.loop-position.position c.loop-position.greatest c.unwrap.result _ (greatest_of c.args.roster.now) (search rules) (search rules) c.loop-position.invariant

pub returns : goal.returns
returns c = greatest_of_all c.args.roster.now c.loop-position.position c.loop-position.greatest (greatest_of c.args.roster.now) (search rules) c.loop-position.invariant
