-- A list of bytes takes texts by appending them.
use Rattle.std.specs.Prelude.{◌≡◌, ℕ, List, ◌++◌}

-- a text was appended to a list
abbrev pub Appends : List ℕ → List ℕ → List ℕ → Type 0
Appends old text new = new ≡ old ++ text

-- a prefix of a text was appended to a list
pub record AppendsFront (old text new : List ℕ) : Type 0 where
  pub front : List ℕ
  pub rest : List ℕ
  pub whole : text ≡ front ++ rest
  pub appended : new ≡ old ++ front
