use Rattle.std.proofs.Common.{sym, subst, rules}
use Rattle.ring_journal.specs.Lines.{IsLine}
use Rattle.ring_recovery.proofs.Marking.{plain_line}
use Rattle.ring_recovery.proofs.written.add_line.Goals as goal

pub add_reserved-requires-clause-line : goal.add_reserved-requires-clause-line
add_reserved-requires-clause-line g c = subst IsLine (sym c.as_slice.ensures.value) (plain_line _ c.spell_line-line.ensures.whole.plain)

pub returns-clause-check : goal.returns-clause-check
returns-clause-check g c = search rules
