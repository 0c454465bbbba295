-- The charters of a group: of the term that it started last, and of the term that it would start
-- now.
use Rattle.std.specs.Prelude.{ℕ, ◌+◌, List, length, Option}
use Rattle.std.specs.Option.{option_and_then, option_map}
use Rattle.ring_node.specs.declared.charter.Charter.{Charter}
use Rattle.ring_terms.specs.Object.{GroupView, Object, find, last_term}

-- the charter of the term that a group would start now: its number is the next, its ring the
-- members
abbrev pub next_charter : {E : Type 0} → List ℕ → GroupView E → Charter E
next_charter name group =
    record {
      group = name;
      term = length group.terms + 1;
      algorithm = group.algorithm;
      roster = group.members;
    }

-- the charter of the last term of a group; None if no term was started
abbrev pub running_charter : {E : Type 0} → List ℕ → GroupView E → Option (Charter E)
running_charter name group =
    option_map
    (λ t. record {
      group = name;
      term = length group.terms;
      algorithm = group.algorithm;
      roster = t.ring;
    }) (last_term group)

-- the charter of the last term of the group of this name
abbrev pub running_in : {E : Type 0} → List ℕ → Object E → Option (Charter E)
running_in name object = option_and_then (running_charter name) (find name object)
