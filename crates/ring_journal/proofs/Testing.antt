-- A line, as a test of its bytes.
use Rattle.std.proofs.Common.{◌≡◌, ◌==◌, ◌&&◌, ℕ, Bool, true, not, List, [], ◌∷◌, refl, arith}
use Rattle.std.specs.List.{list_all}
use Rattle.ring_journal.specs.Lines.{IsLine}

abbrev can_be : ℕ → Bool
can_be byte = not (byte == 10) && not (byte == 0)

pub line_then_passes : (line : List ℕ) → IsLine line → list_all can_be line ≡ true
line_then_passes [] is = refl
line_then_passes (byte ∷ line) is = grind (arith, is.0, is.1, line_then_passes line is.2)

pub passes_then_line : (line : List ℕ) → list_all can_be line ≡ true → IsLine line
passes_then_line [] passes = tt
passes_then_line (byte ∷ line) passes = (λ is. grind (arith, passes, is), λ is. grind (arith, passes, is), passes_then_line line (grind (arith, passes)))
