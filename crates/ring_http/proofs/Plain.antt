-- The values have no float, and nest at most 127 levels deep.
use Rattle.std.proofs.Common.{◌≡◌, ◌≤◌, ◌+◌, ◌∷◌, [], ℕ, List, Option, None, Some, arith, false, map, refl}
use Rattle.serde_json.specs.Data.{Data, depth, items_depth, string}
use Rattle.serde_json.specs.Read.{max_depth}
use Rattle.serde_json.specs.View.{items_of}
use Rattle.serde_json.specs.Written.{has_float, items_have_float}
use Rattle.ring_any.specs.declared.any.Any.{Any}
use Rattle.ring_http.specs.Json.{algorithm_value, group_value, groups_value, leader_value, natural, node_value, term_value, terms_from}
use Rattle.ring_http.specs.declared.picture.GroupPicture.{GroupPicture}

-- a value has no float and nests at most this deep
pub record IsFlat (levels : ℕ) (value : Data) : Type 0 where
  pub plain : has_float value ≡ false
  pub shallow : depth value ≤ levels

-- each of these values does
record AreFlat (levels : ℕ) (values : List Data) : Type 0 where
  plain : items_have_float (items_of values) ≡ false
  shallow : items_depth (items_of values) ≤ levels

more_flat : (levels : ℕ) (value : Data) (values : List Data) → IsFlat levels value
    → AreFlat levels values → AreFlat levels (value ∷ values)
more_flat levels value values one rest =
    record {
      plain = rw one.plain rest.plain;
      shallow = omega (arith, one.shallow, rest.shallow);
    }

each_flat : {X : Type 0} (levels : ℕ) (value_of : X → Data)
    → ((x : X) → IsFlat levels (value_of x)) → (xs : List X) → AreFlat levels (map value_of xs)
each_flat levels value_of flat [] = record { plain = refl; shallow = omega arith }
each_flat levels value_of flat (x ∷ xs) =
    more_flat levels (value_of x) (map value_of xs) (flat x) (each_flat levels value_of flat xs)

string_flat : (text : List ℕ) → IsFlat 0 (string text)
string_flat text = record { plain = refl; shallow = omega arith }

natural_flat : (n : ℕ) → IsFlat 0 (natural n)
natural_flat n = record { plain = refl; shallow = omega arith }

algorithm_flat : (algorithm : Option Any) → IsFlat 0 (algorithm_value algorithm)
algorithm_flat None = record { plain = refl; shallow = omega arith }
algorithm_flat (Some algorithm) = record { plain = refl; shallow = omega arith }

node_flat : (rank : ℕ) → IsFlat 1 (node_value rank)
node_flat rank = record { plain = refl; shallow = omega arith }

leader_flat : (leader : Option ℕ) → IsFlat 1 (leader_value leader)
leader_flat None = record { plain = refl; shallow = omega arith }
leader_flat (Some rank) = node_flat rank

term_flat : (term : ℕ) (leader : Option ℕ) → IsFlat 2 (term_value term leader)
term_flat term leader =
    let flat = leader_flat leader in
    record { plain = rw flat.plain refl; shallow = omega (arith, flat.shallow) }

terms_flat : (term : ℕ) (leaders : List (Option ℕ)) → AreFlat 2 (terms_from term leaders)
terms_flat term [] = record { plain = refl; shallow = omega arith }
terms_flat term (leader ∷ leaders) =
    more_flat 2 _ _ (term_flat term leader) (terms_flat (term + 1) leaders)

pub groups_flat : (place : ℕ) (names : List (List ℕ)) → IsFlat max_depth (groups_value place names)
groups_flat place names =
    let flat = each_flat 0 string string_flat names in
    record { plain = rw flat.plain refl; shallow = omega (arith, flat.shallow) }

pub group_flat : (place : ℕ) (group : GroupPicture) → IsFlat max_depth (group_value place group)
group_flat place group =
    let algorithm = algorithm_flat group.algorithm in
    let informed = each_flat 0 natural natural_flat group.informed.items in
    let members = each_flat 1 node_value node_flat group.members in
    let terms = terms_flat 1 group.leaders in
    record {
      plain = rw (algorithm.plain, informed.plain, members.plain, terms.plain) refl;
      shallow = omega (arith, algorithm.shallow, informed.shallow, members.shallow, terms.shallow);
    }
