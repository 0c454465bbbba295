use Rattle.std.proofs.Common.{arith}
use Rattle.ring_grammar.proofs.Words.{spells_read, spells_unread}
use Rattle.ring_grammar.proofs.parse.parse_event.Goals as goal

pub returns-clause-some : goal.returns-clause-some
returns-clause-some c = spells_read c.args.line.now c.event.result (omega arith) c.event.ensures

pub returns-clause-none : goal.returns-clause-none
returns-clause-none c = spells_unread c.args.line.now c.event.result c.event.ensures
