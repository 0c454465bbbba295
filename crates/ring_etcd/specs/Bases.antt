-- The value of the base.
use Rattle.std.specs.Prelude.{ℕ, List, ◌++◌, codes, decimal}

-- the text that counts, and how many pieces it has
abbrev pub base_text : ℕ → ℕ → List ℕ
base_text text pieces = codes "ringd 1 " ++ (decimal text ++ (codes " " ++ decimal pieces))
