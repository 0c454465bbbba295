use Rattle.std.specs.Prelude.{◌≡◌, ◌-◌, ◌<◌, ◌≤◌, ◌||◌, ◌&&◌, ◌==◌, ℕ, Bool, true, List, ◌++◌, length, replicate, nat_le}
use Rattle.std.specs.List.{list_all}

-- a lowercase letter, a digit or a hyphen
abbrev pub is_name_byte : ℕ → Bool
is_name_byte b = (nat_le 97 b && nat_le b 122) || (nat_le 48 b && nat_le b 57) || (b == 45)

-- 1 to 16 such bytes
pub record IsName (bytes : List ℕ) : Type 0 where
  pub some : 0 < length bytes
  pub short : length bytes ≤ 16
  pub each : list_all is_name_byte bytes ≡ true

-- the bytes of a name followed by zeros, 16 in all
unfoldable pub padded : List ℕ → List ℕ
padded bytes = bytes ++ replicate (16 - length bytes) 0
