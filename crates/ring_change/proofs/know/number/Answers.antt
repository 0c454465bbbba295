use Rattle.std.proofs.Common.{◌∙◌}
use Rattle.ring_change.proofs.Reading.{long_left, reads_left, unread_left}
use Rattle.ring_change.proofs.know.number.Goals as goal

pub returns-in_err-line : goal.returns-in_err-line
returns-in_err-line c = rw c.from_residual.ensures (long_left c.args.word.now c.in_err-line.ensures.none)

pub returns-in_err-parse_command : goal.returns-in_err-parse_command
returns-in_err-parse_command c =
    rw c.from_residual-in_err-parse_command.ensures
    (unread_left c.as_slice.result.now c.args.word.now (c.as_slice.ensures.value ∙ c.in_ok-line.ensures.some) c.in_err-parse_command.ensures.none)

pub returns : goal.returns
returns c =
    rw c.left.ensures
    (reads_left c.args.word.now c.in_ok-parse_command.field-0 (rw (c.as_slice.ensures.value, c.in_ok-line.ensures.some) at c.in_ok-parse_command.ensures.some))
