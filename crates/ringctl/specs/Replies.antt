-- Lines of the service as replies.
use Rattle.std.specs.Prelude.{◌≡◌, ◌<◌, ◌∷◌, ◌++◌, ◌⊎◌, ⊤, ℕ, All, List, codes, length}
use Rattle.std.specs.Char.{IsAsciiDigit}
use Rattle.ringctl.specs.declared.reply.Reply.{Reply}
use Rattle.ringctl.specs.declared.reply.Reply.TheVariants.{Done, Refused}

-- the line from which a reply was read
abbrev pub line_of : Reply → List ℕ
line_of (Done line) = line.now
line_of (Refused word) = codes "no " ++ word.now

-- it is a refusal
abbrev pub IsRefusal : Reply → Type 0
IsRefusal (Done _) = ⊥
IsRefusal (Refused _) = ⊤

-- digits, one or more
abbrev pub IsNumber : List ℕ → Type 0
IsNumber text = (0 < length text) × All IsAsciiDigit text

-- the place of a reply: a number, or `-` if it has none
abbrev pub IsPlace : List ℕ → Type 0
IsPlace text = (text ≡ codes "-") ⊎ IsNumber text

-- the line begins with a place and a space, before this rest
abbrev pub IsPlaced : List ℕ → List ℕ → Type 0
IsPlaced line rest = (place : List ℕ) × IsPlace place × (line ≡ place ++ (32 ∷ rest))

-- a line without its place: the rest after it, or the line itself if it has no place
abbrev pub IsWithoutPlace : List ℕ → List ℕ → Type 0
IsWithoutPlace line bare =
    IsPlaced line bare ⊎ (((rest : List ℕ) → IsPlaced line rest → ⊥) × (bare ≡ line))
