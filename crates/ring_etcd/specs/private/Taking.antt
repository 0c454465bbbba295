-- How an own entry came behind those of other processes.
use Rattle.std.specs.Prelude.{◌≡◌, ◌+◌, ℕ, List}
use Rattle.ring_etcd.specs.Readings.{AreEntries, IsThere}

-- The entries after a text were read, from the first number on, and what they add was put after the
-- old bytes in order. Then an own entry was put under the number after theirs. The next number is
-- the one after its own.
pub record IsPutBehind (name : List ℕ) (text : ℕ) (entry : List ℕ) (first next : ℕ) (old new : List ℕ) : Type 0 where
  pub number : ℕ
  pub has_entries : AreEntries name text first number old new
  pub is_there : IsThere entry
  pub count : next ≡ number + 1
