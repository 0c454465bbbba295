-- The index of the members of a ring.
use Rattle.std.specs.Prelude.{ℕ, List, ⊤}
use Rattle.ring_roster.specs.declared.index.Index.{Index}
use Rattle.ring_roster.specs.declared.index.Index.TheVariants.{Few, Many}
use Rattle.ring_roster.specs.private.Order.{IsOrder}

-- an index of a ring: none, or its positions in the order of numbers
abbrev pub IsIndexOf : List ℕ → Index → Type 0
IsIndexOf ring Few = ⊤
IsIndexOf ring (Many order guesses) = IsOrder ring order.items
