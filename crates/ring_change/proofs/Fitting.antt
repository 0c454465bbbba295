-- A line takes a text that fits.
use Rattle.std.proofs.Common.{◌≡◌, ◌≤◌, ◌+◌, ◌++◌, ℕ, List, length, Result, Ok, Err, OnErr, OnOk, arith}
use Rattle.ring_grammar.specs.Appending.{Appends}
use Rattle.ring_change.specs.Filling.{Overfills}

-- a text that fits is appended whole
pub filled : {T E : Type 0} (result : Result T E) (old text new : List ℕ) → length old + length text ≤ 70 → OnOk result (Appends old text new) → OnErr result (Overfills old text new) → new ≡ old ++ text
filled (Ok value) old text new fits ok err = ok
filled (Err fault) old text new fits ok err = absurd (omega (arith, fits, err.long))
