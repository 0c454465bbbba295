-- Identities as ranks: a weight and a number in one natural number, the weight in the high part.
use Rattle.std.specs.Prelude.{ℕ, ◌+◌, ◌*◌, ◌/◌, ◌%◌}

-- the rank of this weight and this number: ranks are ordered by weight, then by number
abbrev pub rank_of : ℕ → ℕ → ℕ
rank_of weight number = weight * 4294967296 + number

-- the number of the identity with this rank, by which it is looked up; members of a ring differ in
-- it
abbrev pub number_of : ℕ → ℕ
number_of rank = rank % 4294967296

-- the weight of the identity with this rank
abbrev pub weight_of : ℕ → ℕ
weight_of rank = rank / 4294967296
