-- The greatest number of changes that lead to a book.
use Rattle.std.specs.Prelude.{◌+◌, ◌*◌, ℕ, [], ◌∷◌, length}
use Rattle.ring_terms.specs.Object.{Object}

-- For each group 513: one for its creation, and 256 that leave and 256 that join after its last
-- term. For each term 769: 256 that leave before it, 256 that join, its start, and 256 that come to
-- know its leader.
abbrev pub most_changes : {E : Type 0} → Object E → ℕ
most_changes [] = 0
most_changes (entry ∷ groups) = (513 + 769 * length entry.1.terms) + most_changes groups
