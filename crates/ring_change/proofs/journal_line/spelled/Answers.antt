use Rattle.std.proofs.Common.{length, arith, ap}
use Rattle.ring_change.specs.Spelling.{change_line}
use Rattle.ring_change.proofs.Fitting.{filled}
use Rattle.ring_change.proofs.Short.{short-change}
use Rattle.ring_change.proofs.journal_line.spelled.Goals as goal

pub returns-clause-line : goal.returns-clause-line
returns-clause-line c =
    let short = short-change c.args.change.now c.print_change-printed.ensures.legal in
    rw c.new-line.ensures at (filled c.print_change-printed.result c.new-line.result (change_line c.args.change.now) c.print_change-printed.new.out
    (omega (arith, short, ap length c.new-line.ensures)) c.print_change-printed.ensures.ok c.print_change-printed.ensures.err)

pub returns-clause-short : goal.returns-clause-short
returns-clause-short c = omega (arith, short-change c.args.change.now c.print_change-printed.ensures.legal, ap length (returns-clause-line c))
