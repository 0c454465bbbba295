-- All bytes that a reader has left, read through a limit that was not reached.
use Rattle.std.proofs.Common.{◌≡◌, ◌<◌, ◌∙◌, ℕ, zero, suc, List, [], ◌∷◌, length, take, Option, Some, None, ap, arith, refl}
use Rattle.std.specs.Prelude.{IfSome, option_map}

-- a prefix that is shorter than it may be is the whole
short_front : (xs : List ℕ) (limit : ℕ) → length (take limit xs) < limit → take limit xs ≡ xs
short_front [] zero short = refl
short_front [] (suc limit) short = refl
short_front (x ∷ xs) zero short = absurd (omega arith)
short_front (x ∷ xs) (suc limit) short = ap (λ (l : List ℕ). x ∷ l) (short_front xs limit (omega arith))

-- so the bytes that were read are all, if these are known
pub whole_read : (left : Option (List ℕ)) (limit : ℕ) (text : List ℕ) → length text < limit → IfSome (option_map (take limit) left) (λ bytes. text ≡ bytes) → IfSome left (λ bytes. text ≡ bytes)
whole_read None limit text short read = tt
whole_read (Some bytes) limit text short read = let front : length (take limit bytes) < limit = rw read at short in read ∙ short_front bytes limit front
