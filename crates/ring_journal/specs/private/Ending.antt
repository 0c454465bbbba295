-- The end of the first line of a text.
use Rattle.std.specs.Prelude.{◌≡◌, ◌<◌, ℕ, ◌+◌, List, [], ◌∷◌, Option, Some, None, length, take, drop}
use Rattle.ring_journal.specs.Lines.{whole_lines_of}

-- An LF ends the first line after `len` bytes, or no line ends.
abbrev pub EndsFirst : List ℕ → Option ℕ → Type 0
EndsFirst text None = whole_lines_of text ≡ []
EndsFirst text (Some len) =
    (len < length text)
    × (whole_lines_of text ≡ take len text ∷ whole_lines_of (drop (len + 1) text))
