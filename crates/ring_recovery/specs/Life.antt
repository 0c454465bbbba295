-- The numbers of lives of a journal, and the places of each life.
use Rattle.std.specs.Prelude.{◌<◌, ◌≤◌, ◌-◌, ◌*◌, ◌^◌, ℕ}

-- the number of a life: from 1 to 1048576
abbrev pub IsLife : ℕ → Type 0
IsLife life = (0 < life) × (life ≤ 2 ^ 20)

-- The number that is added to each place of a life. A life has fewer than 2^44 places.
abbrev pub base_of : ℕ → ℕ
base_of life = (life - 1) * 2 ^ 44
