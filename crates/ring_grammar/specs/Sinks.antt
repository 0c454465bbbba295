-- Bytes put one piece after another.
use Rattle.std.specs.Prelude.{ℕ, List, [], ◌++◌}

-- The laws of putting one piece after another. No bytes lead from a state to itself. Putting one
-- text and then another puts both together. A prefix of a text is one of the text and what follows
-- it.
pub record IsSequence {S : Type 0} (takes takes_front : S → List ℕ → S → Type 0) : Type 0 where
  pub none : (a : S) → takes a [] a
  pub then : (a b c : S) (first second : List ℕ) → takes a first b → takes b second c
      → takes a (first ++ second) c
  pub front : (a b : S) (first second : List ℕ) → takes_front a first b
      → takes_front a (first ++ second) b
  pub then_front : (a b c : S) (first second : List ℕ) → takes a first b → takes_front b second c
      → takes_front a (first ++ second) c
