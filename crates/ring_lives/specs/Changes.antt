-- The changes of a history, which a journal keeps.
use Rattle.std.specs.Prelude.{List, [], ◌∷◌, Option, Some, None}
use Rattle.ring_change.specs.Changes.{change_by, noted_change}
use Rattle.ring_change.specs.declared.change.Change.{Change}
use Rattle.ring_table.specs.declared.entry.Entry.{Entry}
use Rattle.ring_table.specs.declared.entry.Entry.TheVariants.{Call, Filing}

-- the change that an entry made
abbrev pub change_in : {E : Type 0} → Entry E → Option (Change E)
change_in (Call session command reply) = change_by command reply
change_in (Filing group term member leader noting) = noted_change group term member leader noting

-- a value before others, if there is one
abbrev pub onto : {A : Type 0} → Option A → List A → List A
onto None xs = xs
onto (Some x) xs = x ∷ xs

-- the changes of a history, in order
abbrev pub changes_of : {E : Type 0} → List (Entry E) → List (Change E)
changes_of [] = []
changes_of (entry ∷ entries) = onto (change_in entry) (changes_of entries)
