use Rattle.ring_change.proofs.Parsing.{knows_none, knows_some}
use Rattle.ring_change.proofs.parse.parse_change.Goals as goal

pub returns-in-None-clause-some : goal.returns-in-None-clause-some
returns-in-None-clause-some c = knows_some c.args.line.now c.know.result c.know.ensures

pub returns-in-None-clause-none : goal.returns-in-None-clause-none
returns-in-None-clause-none c = knows_none c.args.line.now c.know.result c.in-None.ensures.none c.know.ensures
