-- Reading lines: cut into words, then each word by itself.
use Rattle.std.specs.Prelude.{◌≡◌, ◌<◌, ◌==◌, ◌^◌, ℕ, List, Option, None, Some}
use Rattle.std.specs.List.{slice_split}
use Rattle.ring_events.specs.declared.event.Command.{Command}
use Rattle.ring_events.specs.declared.event.Event.{Event}
use Rattle.ring_events.specs.declared.event.Event.TheVariants.{Client, Deliver, Cut, Pending, Drain}

-- The value that this text spells, and `None` only if it spells no legal value.
abbrev pub Reads : {A B : Type 0} → (A → B) → (A → Type 0) → B → Option A → Type 0
Reads spell IsLegal text (Some a) = IsLegal a × (text ≡ spell a)
Reads {A} spell IsLegal text None = (a : A) → IsLegal a → text ≡ spell a → ⊥

-- the parts of a text between the bytes that equal this one
abbrev pub parts_at : ℕ → List ℕ → List (List ℕ)
parts_at byte text = slice_split (λ b. b == byte) text

-- the words of a line: the parts between spaces
abbrev pub words_in : List ℕ → List (List ℕ)
words_in line = parts_at 32 line

-- numbers of 32 bits
abbrev pub IsShortNumber : ℕ → Type 0
IsShortNumber n = n < 2 ^ 32

-- the client command in an event, if it is one
abbrev pub client_part : {E : Type 0} → Event E → Option (Command E)
client_part (Client command) = Some command
client_part (Deliver group node side) = None
client_part (Cut group node side) = None
client_part (Pending group) = None
client_part (Drain group count) = None
