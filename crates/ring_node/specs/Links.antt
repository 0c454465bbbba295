-- The sides from which packets arrive.
use Rattle.std.specs.Prelude.{◌&&◌, Bool, not, Option, None}
use Rattle.ring_id.specs.declared.refusal.Refusal.{Refusal}
use Rattle.ring_id.specs.declared.refusal.Refusal.TheVariants as refused
use Rattle.ring_id.specs.declared.side.Side.{Side}
use Rattle.ring_id.specs.declared.side.Side.TheVariants.{Right}
use Rattle.ring_id.specs.Refusals.{refused_if}
use Rattle.ring_id.specs.Sides.{same_side}

-- no packet arrives from the right under an algorithm that isn't two-way
abbrev pub link_refusal : Bool → Side → Option Refusal
link_refusal two_way side = refused_if (same_side side Right && not two_way) refused.OneWay None
