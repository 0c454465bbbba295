-- How many keys the map of a table has.
use Rattle.std.proofs.Common.{◌≡◌, List, [], ◌∷◌, length, refl, ap, String, Global}
use Rattle.std.specs.Prelude.{suc}
use Rattle.toml.specs.View.{members_view}
use Rattle.toml.specs.declared.value.Value.{Value}
use Rattle.ring_config.specs.Reading.{count}

-- a table has as many keys as the map has entries
pub count_view : (entries : List (String Global × Value)) → count (members_view entries) ≡ length entries
count_view [] = refl
count_view (entry ∷ entries) = ap suc (count_view entries)
