-- The moment of a journal on an engine.
use Rattle.std.specs.Prelude.{ℕ, List, [], ◌∷◌, ◌++◌, Option, Some, None, length}
use Rattle.ring_journal.specs.Moments.{Moment}

-- the bytes of a text and of the entries after it
abbrev pub joined : List (List ℕ) → List ℕ
joined [] = []
joined (entry ∷ entries) = entry ++ joined entries

-- the bytes of a text, if there is one
abbrev pub text_in : {A : Type 0} → (A → List ℕ) → Option A → Option (List ℕ)
text_in bytes None = None
text_in bytes (Some text) = Some (bytes text)

-- The engine holds a text and entries, and these bytes are to be put after them. A restart may find
-- the other text, if there is one.
abbrev pub moment_of : List (List ℕ) → List ℕ → Option (List ℕ) → Moment
moment_of held pending other =
    record { text = joined held ++ pending; kept = length (joined held); other = other }
