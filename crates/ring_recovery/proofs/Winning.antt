-- The leader that a book names is the winner of its ring.
use Rattle.std.proofs.Common.{◌≡◌, ◌-◌, ℕ, List, Some, length, ap, ◌∙◌}
use Rattle.std.proofs.lemmas.Option.{same_Some}
use Rattle.ring_node.specs.declared.charter.Charter.{Charter}
use Rattle.ring_terms.specs.Charters.{running_charter, running_in}
use Rattle.ring_terms.specs.Kept.{IsKept}
use Rattle.ring_terms.specs.Object.{Object, OfGroup}
use Rattle.ring_terms.specs.Standings.{Tells}
use Rattle.ring_terms.specs.declared.standing.Standing.TheVariants.{Leader}

pub wins : {E : Type 0} (winner : E → List ℕ → ℕ) (object : Object E) (group : List ℕ) (member term leader : ℕ) (charter : Charter E) → IsKept winner object
    → OfGroup group (Tells member (Leader term leader)) object → running_in group object ≡ Some charter → leader ≡ winner charter.algorithm charter.roster
wins {E} winner object group member term leader charter kept of running =
    let says = of.says.says.1 in
    let last = of.says.term in
    let its : Charter E = record { group = group; term = length of.group.terms; algorithm = of.group.algorithm; roster = last.ring } in
    let runs : running_charter group of.group ≡ Some charter = rw of.found at running in
    let same : its ≡ charter = same_Some its charter (rw of.says.found at runs) in
    let kept_term = (kept.each group of.group of.found).each (length of.group.terms - 1) last of.says.found in
    kept_term.wins leader says.leads ∙ ap (λ (c : Charter E). winner c.algorithm c.roster) same
