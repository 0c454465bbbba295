-- The spelling of identities and of nodes' numbers. A node that joins is spelled by its whole
-- identity, and a node that is a member by its number.
use Rattle.std.specs.Prelude.{◌<◌, ◌^◌, ◌==◌, ◌++◌, ℕ, List, [], if◌then◌else◌, codes, decimal}
use Rattle.ring_id.specs.Identity.{number_of, weight_of}

-- a weight is spelled after a slash, and the weight 0 is not spelled
abbrev pub weight_text : ℕ → List ℕ
weight_text weight = if weight == 0 then [] else codes "/" ++ decimal weight

-- an identity, given its rank, is spelled by its number and its weight
abbrev pub node_word : ℕ → List ℕ
node_word rank = decimal (number_of rank) ++ weight_text (weight_of rank)

-- a number of the grammar: from 1 to 4294967295
abbrev pub IsNumber : ℕ → Type 0
IsNumber number = (0 < number) × (number < 2 ^ 32)

-- an identity of the grammar, given its rank: it has such a number, and a weight of at most 65535
abbrev pub IsNode : ℕ → Type 0
IsNode rank = IsNumber (number_of rank) × (weight_of rank < 2 ^ 16)
