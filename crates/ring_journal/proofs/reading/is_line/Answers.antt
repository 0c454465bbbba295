use Rattle.std.proofs.Common.{◌∙◌, sym}
use Rattle.ring_journal.proofs.Testing.{line_then_passes, passes_then_line}
use Rattle.ring_journal.proofs.reading.is_line.Goals as goal

pub returns : goal.returns
returns c = (
  λ passes. passes_then_line c.args.line.now (sym c.has_no_end.ensures ∙ passes),
  λ is. c.has_no_end.ensures ∙ line_then_passes c.args.line.now is,
)
