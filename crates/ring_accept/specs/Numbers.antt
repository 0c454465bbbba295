-- The numbers of sessions.
use Rattle.std.specs.Prelude.{◌==◌, ◌+◌, ℕ, if◌then◌else◌}

-- the number of the session after this one: one more, and 1 after the greatest
abbrev pub next_number : ℕ → ℕ
next_number last = if last == 4294967295 then 1 else last + 1
