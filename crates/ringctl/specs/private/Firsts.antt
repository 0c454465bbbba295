-- The first of several tries that gives something.
use Rattle.std.specs.Prelude.{◌<◌, ℕ, List, None, Option, Some, length}
use Rattle.std.specs.List.{AllWithin, HoldsAt}

-- A value is what one of the tries gives, and each try before that one gives nothing. If there is
-- no value, each try gives nothing.
abbrev pub IsFirst : {A T : Type 0} → (A → Option T → Type 0) → List A → Option T → Type 0
IsFirst Gives xs None = AllWithin (λ x. Gives x None) xs 0 (length xs)
IsFirst Gives xs (Some given) =
    (k : ℕ) × (k < length xs) × HoldsAt (λ x. Gives x (Some given)) xs k
    × AllWithin (λ x. Gives x None) xs 0 k
