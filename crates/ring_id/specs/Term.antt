use Rattle.std.specs.Prelude.{ℕ, ◌<◌, ◌≤◌}

-- the numbers that a term may have
abbrev pub IsTerm : ℕ → Type 0
IsTerm number = (0 < number) × (number ≤ 1000)
