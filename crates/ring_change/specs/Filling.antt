-- A line takes texts by appending them, as far as they fit.
use Rattle.std.specs.Prelude.{◌<◌, ◌+◌, ℕ, List, length}
use Rattle.ring_grammar.specs.Appending.{AppendsFront}

-- A prefix of a text was appended to a line, and the whole text would not fit.
pub record Overfills (old text new : List ℕ) : Type 0 where
  pub appended : AppendsFront old text new
  pub long : 70 < length old + length text
