-- The place in an answer.
use Rattle.std.specs.Prelude.{◌+◌, ℕ}
use Rattle.ring_table.specs.declared.access.Answer.{Answer}
use Rattle.ring_table.specs.declared.access.Answer.TheVariants.{Placed, Unplaced}

-- the answer with its place counted from this base
abbrev pub told_from : ℕ → Answer → Answer
told_from base (Placed reply place) = Placed reply (base + place)
told_from base (Unplaced refusal) = Unplaced refusal
