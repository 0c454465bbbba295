-- Lines that are answered together.
use Rattle.std.specs.Prelude.{ℕ, List}
use Rattle.std.specs.List.{AllZip}
use Rattle.ring_lines.specs.Rounds.{RunOf}

-- the answers are a run over any lines with these questions
abbrev pub AnswersAll : {K A B : Type 0} → (List ℕ → K → Type 0) → (List ℕ → A → B → A → Type 0)
    → List K → A → List B → A → Type 0
AnswersAll asks answers asked old given new =
    (lines : List (List ℕ)) → AllZip asks lines asked → RunOf answers old lines given new
