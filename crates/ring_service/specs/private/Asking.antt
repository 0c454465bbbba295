-- The command that a line of a session asks for.
use Rattle.std.specs.Prelude.{ℕ, List, Option, Some, None}
use Rattle.ring_any.specs.declared.any.Any.{Any}
use Rattle.ring_events.specs.declared.event.Command.{Command}
use Rattle.ring_events.specs.declared.event.Event.TheVariants.{Client}
use Rattle.ring_grammar.specs.Spelling.{Spells}

-- the client command that the line spells, or `None` if it spells none
abbrev pub AsksCommand : List ℕ → Option (Command Any) → Type 0
AsksCommand line (Some command) = Spells line (Client command)
AsksCommand line None = (command : Command Any) → ¬ (Spells line (Client command))
