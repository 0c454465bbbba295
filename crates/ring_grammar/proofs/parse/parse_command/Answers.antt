-- The client command of a line is the part of its event, which the line spells.
use Rattle.std.proofs.Common.{rules}
use Rattle.ring_events.specs.declared.event.Event.TheVariants.{Client}
use Rattle.ring_grammar.proofs.parse.parse_command.Goals as goal

pub returns-in_err-parse_event-clause-none : goal.returns-in_err-parse_event-clause-none
returns-in_err-parse_event-clause-none c = rw c.from_residual.ensures (λ command. c.in_err-parse_event.ensures.none (Client command))

-- The event that was read is the one that the line spells.
pub returns-clause-some : goal.returns-clause-some
returns-clause-some c = search rules
