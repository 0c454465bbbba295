-- The tests are of all four fields.
use Rattle.std.proofs.Common.{ap, rules}
use Rattle.ring_node.specs.declared.charter.Charter.{Charter}
use Rattle.ring_node.proofs.charter.Charter.same.Goals as goal

pub returns-then-eq-3 : goal.returns-then-eq-3
returns-then-eq-3 g c =
    (search rules, λ same. c.same.ensures.1 (ap (λ (charter : Charter g.row.E.Denot). charter.roster) same))
