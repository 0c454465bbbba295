-- A weight and a number give a rank, and a rank gives both.
use Rattle.std.specs.Prelude.{◌≡◌, ◌<◌, ℕ}
use Rattle.std.proofs.Common.{arith}
use Rattle.ring_id.specs.Identity.{number_of, rank_of, weight_of}

-- the number of a rank is the number that it was made of
pub number_of-rank : (weight number : ℕ) → number < 4294967296 → number_of (rank_of weight number) ≡ number
number_of-rank weight number below = omega arith

-- the weight of a rank is the weight that it was made of
pub weight_of-rank : (weight number : ℕ) → number < 4294967296 → weight_of (rank_of weight number) ≡ weight
weight_of-rank weight number below = omega arith

-- each rank is made of its weight and its number
pub rank_of-parts : (rank : ℕ) → rank_of (weight_of rank) (number_of rank) ≡ rank
rank_of-parts rank = omega arith

-- a number alone is the rank of weight 0
pub number_of-number : (number : ℕ) → number < 4294967296 → number_of number ≡ number
number_of-number number below = omega arith
