-- Entries behind others.
use Rattle.std.specs.Prelude.{◌≡◌, List, ◌++◌}
use Rattle.ring_any.specs.declared.any.Any.{Any}
use Rattle.ring_table.specs.declared.entry.Entry.{Entry}

-- The entries that were added are such entries.
pub record Adds (Such : List (Entry Any) → Type 0) (mine now : List (Entry Any)) : Type 0 where
  pub added : List (Entry Any)
  pub gained : now ≡ mine ++ added
  pub such : Such added
