use Rattle.std.proofs.Common.{◌∙◌}
use Rattle.ring_change.proofs.Reading.{long_joined, reads_joined, unread_joined}
use Rattle.ring_change.proofs.know.node.Goals as goal

pub returns-in_err-line : goal.returns-in_err-line
returns-in_err-line c = rw c.from_residual.ensures (long_joined c.args.word.now c.in_err-line.ensures.none)

pub returns-in_err-parse_command : goal.returns-in_err-parse_command
returns-in_err-parse_command c =
    rw c.from_residual-in_err-parse_command.ensures
    (unread_joined c.as_slice.result.now c.args.word.now (c.as_slice.ensures.value ∙ c.in_ok-line.ensures.some) c.in_err-parse_command.ensures.none)

pub returns : goal.returns
returns c =
    rw c.joined.ensures
    (reads_joined c.args.word.now c.in_ok-parse_command.field-0 (rw (c.as_slice.ensures.value, c.in_ok-line.ensures.some) at c.in_ok-parse_command.ensures.some))
