use Rattle.std.proofs.Common.{◌≡◌, ◌≤◌, ◌*◌, take}
use Rattle.ring_world.specs.Worlds.{receipts_in}
use Rattle.ring_world.proofs.tallied_circle.TalliedCircle.delivered.Given as goal

-- what was received at the positions that were passed; each side adds less than 2 ^ 64
abbrev pub invariant-loop-position : goal.invariant-loop-position
invariant-loop-position g l = record { counted : l.delivered ≡ receipts_in (take l.position l.self.journals); few : l.delivered ≤ 36893488147419103232 * l.position }
