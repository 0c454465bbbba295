-- The terms that are begun again after a recovery.
use Rattle.std.specs.Prelude.{List, [], ◌∷◌}
use Rattle.ring_node.specs.declared.charter.Charter.{Charter}
use Rattle.ring_terms.specs.Charters.{running_charter}
use Rattle.ring_terms.specs.Object.{Object}
use Rattle.ring_lives.specs.Changes.{onto}

-- the charter of the last term of each group that has one, in order of creation
abbrev pub running_charters : {E : Type 0} → Object E → List (Charter E)
running_charters [] = []
running_charters (entry ∷ groups) = onto (running_charter entry.0 entry.1) (running_charters groups)
