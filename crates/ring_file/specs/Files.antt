-- The text of a file, batch by batch.
use Rattle.std.specs.Prelude.{ℕ, List, [], ◌∷◌, ◌++◌, Option, Some, None, length, take}
use Rattle.ring_journal.specs.Moments.{Moment}

-- the bytes of batches, one after another
abbrev pub joined : List (List ℕ) → List ℕ
joined [] = []
joined (batch ∷ batches) = batch ++ joined batches

-- the text of a batch, if there is one
abbrev pub text_in : {A : Type 0} → (A → List ℕ) → Option A → Option (List ℕ)
text_in text None = None
text_in text (Some batch) = Some (text batch)

-- These batches were written, and the first `synced` of them were synced. A restart may find the
-- other text, if there is one.
abbrev pub moment_of : List (List ℕ) → ℕ → Option (List ℕ) → Moment
moment_of batches synced other =
    record { text = joined batches; kept = length (joined (take synced batches)); other = other }
