-- The bytes that entries add to the text.
use Rattle.std.specs.Prelude.{◌≡◌, ℕ, List, [], ◌∷◌, ◌++◌, Option, Some, None, if◌then◌else◌, ◌==◌, option_map}
use Rattle.std.specs.Fmt.{option_append}

-- An entry that begins with `b` adds its other bytes, and one that begins with `t` adds none. No
-- other entry is read.
abbrev pub added : List ℕ → Option (List ℕ)
added [] = None
added (kind ∷ bytes) = if kind == 98 then Some bytes else (if kind == 116 then Some [] else None)

-- what entries add, in their order
abbrev pub added_by : List (List ℕ) → Option (List ℕ)
added_by [] = Some []
added_by (entry ∷ entries) = option_append (added entry) (added_by entries)

-- Each of these entries was read, and what they add was put after the old bytes.
abbrev pub AreAdded : List (List ℕ) → List ℕ → List ℕ → Type 0
AreAdded entries old new = option_map (λ bytes. old ++ bytes) (added_by entries) ≡ Some new
