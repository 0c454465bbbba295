-- What replies have of what was found in etcd.
use Rattle.std.specs.Prelude.{ℕ, List, [], ◌∷◌, Option, Some, None, codes, option_and_then}
use Rattle.base64.specs.Engines.{standard}
use Rattle.base64.specs.GeneralPurpose.{decoded_of}
use Rattle.serde_json.specs.Data.{Data, Items, no_items, item}
use Rattle.serde_json.specs.Find.{as_array, as_str, pointer}

-- The bytes that are in base 64 at a place of a reply. There are none if no text is there.
abbrev pub bytes_at : List ℕ → Data → Option (List ℕ)
bytes_at path reply =
    option_and_then (decoded_of standard) (option_and_then as_str (pointer path reply))

-- the value at the key that was to be put, if the condition did not hold
abbrev pub entry_in : Data → Option (List ℕ)
entry_in = bytes_at (codes "/responses/0/response_range/kvs/0/value")

-- the items of an array
abbrev pub items_in : Items → List Data
items_in no_items = []
items_in (item first rest) = first ∷ items_in rest

-- the items of an array, if there is one
abbrev pub items_at : Option Items → List Data
items_at None = []
items_at (Some items) = items_in items

-- The pairs that a reply has, in its order. There are none if it has no array of them.
abbrev pub pairs_in : Data → List Data
pairs_in reply = items_at (option_and_then as_array (pointer (codes "/kvs") reply))

-- the key of a pair, which is in base 64
abbrev pub key_in : Data → Option (List ℕ)
key_in pair = option_and_then as_str (pointer (codes "/key") pair)

-- the value of a pair
abbrev pub value_in : Data → Option (List ℕ)
value_in = bytes_at (codes "/value")
