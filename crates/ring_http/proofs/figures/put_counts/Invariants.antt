use Rattle.std.proofs.Common.{◌≡◌, ◌++◌, drop}
use Rattle.std.specs.List.{flat_map}
use Rattle.ring_http.specs.Figures.{counts_text, refusal_sample}
use Rattle.ring_http.proofs.figures.put_counts.Given as goal

-- what was put, and what is left
abbrev pub invariant-loop-refusal : goal.invariant-loop-refusal
invariant-loop-refusal l = l.out.items ++ flat_map (refusal_sample l.counts) (drop l.refusal-index l.refusals) ≡ l.fn.out.items ++ counts_text l.counts l.refusals
