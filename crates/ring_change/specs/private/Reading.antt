-- How lines are read: cut into words, then each word by itself.
use Rattle.std.specs.Prelude.{◌≡◌, ◌==◌, ℕ, List, Option, None, Some}
use Rattle.std.specs.List.{slice_split}
use Rattle.ring_any.specs.declared.any.Any.{Any}
use Rattle.ring_events.specs.declared.event.Command.{Command}
use Rattle.ring_events.specs.declared.event.Command.TheVariants as command
use Rattle.ring_change.specs.declared.change.Change.{Change}
use Rattle.ring_change.specs.declared.change.Change.TheVariants.{Create, Join, Leave, Start, Know}
use Rattle.ring_change.specs.Spelling.{IsChange}

-- This legal value is spelled so; or there is none, since no legal value is spelled so.
abbrev pub Reads : {A B : Type 0} → (A → B) → (A → Type 0) → B → Option A → Type 0
Reads spell IsLegal text (Some a) = IsLegal a × (text ≡ spell a)
Reads {A} spell IsLegal text None = (a : A) → IsLegal a → text ≡ spell a → ⊥

-- the words of a line: the parts between spaces
abbrev pub words_in : List ℕ → List (List ℕ)
words_in line = slice_split (λ b. b == 32) line

-- a change by a report
abbrev pub IsKnow : Change Any → Type 0
IsKnow (Create group algorithm) = ⊥
IsKnow (Join group node) = ⊥
IsKnow (Leave group number) = ⊥
IsKnow (Start group) = ⊥
IsKnow (Know group term member leader) = IsChange (Know group term member leader)

-- the number that a command to leave names
abbrev pub left_number : Command Any → Option ℕ
left_number (command.Leave group number) = Some number
left_number _ = None

-- the identity that a command to join names
abbrev pub joined_node : Command Any → Option ℕ
joined_node (command.Join group node) = Some node
joined_node _ = None
