use Rattle.std.proofs.Common.{sym, subst}
use Rattle.ring_journal.specs.private.Ending.{EndsFirst}
use Rattle.ring_journal.proofs.Fronts.{ends_first}
use Rattle.ring_journal.proofs.reading.line_len.Goals as goal

pub returns : goal.returns
returns c = subst (EndsFirst c.args.text.now) (sym c.place_of.ensures) (ends_first c.args.text.now)
