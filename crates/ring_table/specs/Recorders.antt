-- Contracts see this of a recorder that keeps no entry.
use Rattle.std.specs.Prelude.{ℕ, List}
use Rattle.ring_table.specs.declared.entry.Entry.{Entry}

-- the entries that were recorded, in order, and for how many more there is room
pub record UnkeptView (E : Type 0) : Type 0 where
  pub items : List (Entry E)
  pub room : ℕ
