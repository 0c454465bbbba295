use Rattle.std.proofs.Common.{◌≡◌, ◌++◌, drop}
use Rattle.std.specs.List.{flat_map}
use Rattle.ring_http.specs.Gauges.{family_text, sample_text}
use Rattle.ring_http.proofs.gauges.put_family.Given as goal

-- what was put, and what is left
abbrev pub invariant-loop-group : goal.invariant-loop-group
invariant-loop-group l = l.out.items ++ flat_map (sample_text l.gauge) (drop l.group-index l.groups) ≡ l.fn.out.items ++ family_text l.gauge l.groups
