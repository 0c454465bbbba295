-- The weight that an inner function reads.
use Rattle.std.specs.Prelude.{◌<◌, ◌^◌, ℕ}

-- a weight of the grammar that is written: from 1 to 65535
abbrev pub IsWeight : ℕ → Type 0
IsWeight weight = (0 < weight) × (weight < 2 ^ 16)
