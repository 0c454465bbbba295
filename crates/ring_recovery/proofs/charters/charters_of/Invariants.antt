use Rattle.std.proofs.Common.{◌≡◌, map, take}
use Rattle.ring_recovery.specs.Charters.{running_charters}
use Rattle.ring_recovery.proofs.charters.charters_of.Given as goal

abbrev pub invariant-loop-name : goal.invariant-loop-name
invariant-loop-name g l = map (λ charter. charter.value) l.charters.items ≡ running_charters (take l.name-index l.book)
