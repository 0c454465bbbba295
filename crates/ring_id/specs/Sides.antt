use Rattle.std.specs.Prelude.{Bool, true, false}
use Rattle.ring_id.specs.declared.side.Side.{Side}
use Rattle.ring_id.specs.declared.side.Side.TheVariants.{Left, Right}

-- the other side
abbrev pub other : Side → Side
other Left = Right
other Right = Left

-- whether two sides are the same
abbrev pub same_side : Side → Side → Bool
same_side Left Left = true
same_side Left Right = false
same_side Right Left = false
same_side Right Right = true
