-- What a line of a schedule asks.
use Rattle.std.specs.Prelude.{ℕ, List, Option, Some, None}
use Rattle.ring_any.specs.declared.any.Any.{Any}
use Rattle.ring_events.specs.declared.event.Event.{Event}
use Rattle.ring_grammar.specs.Spelling.{Spells}

-- the event that it spells, or nothing where it spells none
abbrev pub AsksEvent : List ℕ → Option (Event Any) → Type 0
AsksEvent line (Some event) = Spells line event
AsksEvent line None = (event : Event Any) → ¬ (Spells line event)
