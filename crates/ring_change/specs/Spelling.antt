-- Changes as lines: each has one spelling. A change by a command is spelled as that command.
use Rattle.std.specs.Prelude.{◌≡◌, ℕ, List, [], ◌∷◌, codes, decimal}
use Rattle.ring_any.specs.declared.any.Any.{Any}
use Rattle.ring_id.specs.GroupName.{IsName}
use Rattle.ring_id.specs.Term.{IsTerm}
use Rattle.ring_events.specs.declared.event.Command.TheVariants as command
use Rattle.ring_grammar.specs.Identities.{IsNode, node_word}
use Rattle.ring_grammar.specs.Spelling.{IsCommand, command_words, line_of}
use Rattle.ring_change.specs.declared.change.Change.{Change}
use Rattle.ring_change.specs.declared.change.Change.TheVariants.{Create, Join, Leave, Start, Know}

-- the words of a change: those of its command, or `know`, a group, a term, a member and a leader
abbrev pub change_words : Change Any → List (List ℕ)
change_words (Create group algorithm) = command_words (command.Create group algorithm)
change_words (Join group node) = command_words (command.Join group node)
change_words (Leave group number) = command_words (command.Leave group number)
change_words (Start group) = command_words (command.Start group)
change_words (Know group term member leader) =
    codes "know" ∷ group ∷ decimal term ∷ node_word member ∷ node_word leader ∷ []

-- the line of a change, without an LF
abbrev pub change_line : Change Any → List ℕ
change_line change = line_of (change_words change)

-- the changes of the grammar
abbrev pub IsChange : Change Any → Type 0
IsChange (Create group algorithm) = IsCommand (command.Create group algorithm)
IsChange (Join group node) = IsCommand (command.Join group node)
IsChange (Leave group number) = IsCommand (command.Leave group number)
IsChange (Start group) = IsCommand (command.Start group)
IsChange (Know group term member leader) =
    IsName group × IsTerm term × IsNode member × IsNode leader

-- These bytes spell this change: they are its line.
pub record SpellsChange (line : List ℕ) (change : Change Any) : Type 0 where
  pub legal : IsChange change
  pub same : line ≡ change_line change
