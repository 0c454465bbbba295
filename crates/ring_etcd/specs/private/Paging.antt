-- The pairs that were taken from a reply.
use Rattle.std.specs.Prelude.{◌≡◌, ℕ, List, Some, map, string_bytes}
use Rattle.serde_json.specs.Data.{Data}
use Rattle.ring_etcd.specs.declared.replies.Pair.{Pair}
use Rattle.ring_etcd.specs.Found.{key_in, value_in}

-- the keys of pairs
abbrev pub keys_of : List Pair → List (List ℕ)
keys_of pairs = map (λ pair. string_bytes pair.key) pairs

-- the values of pairs
abbrev pub values_of : List Pair → List (List ℕ)
values_of pairs = map (λ pair. pair.value.items) pairs

-- A pair has the key and the value of this one in a reply.
abbrev pub IsPair : Data → Pair → Type 0
IsPair found pair =
    (Some (string_bytes pair.key) ≡ key_in found) × (Some pair.value.items ≡ value_in found)

-- The pairs are these of a reply, in order: none is left out, and none is there twice.
abbrev pub ArePairs : List Data → List Pair → Type 0
ArePairs found pairs =
    (map Some (keys_of pairs) ≡ map key_in found)
    × (map Some (values_of pairs) ≡ map value_in found)
