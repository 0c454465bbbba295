-- The lives of a journal, and the places in their replies.
use Rattle.std.specs.Prelude.{◌≡◌, ◌<◌, ◌+◌, ◌^◌, ℕ, List, [], ◌∷◌, Some, slice_get}
use Rattle.ring_any.specs.declared.any.Any.{Any}
use Rattle.ring_table.specs.declared.entry.Entry.{Entry}
use Rattle.ring_recovery.specs.Recovered.{RecoveredView, Recovers}
use Rattle.ring_recovery.specs.Written.{FindsEntries}
use Rattle.ring_recovery.specs.Life.{base_of}

-- the place in a reply, for a place in the history of a life
abbrev pub told_place : ℕ → ℕ → ℕ
told_place life place = base_of life + place

-- A life of a journal: its number, and the entries that its table had in the end. The first `sure`
-- of them were kept for good. `found` is the file that the crash at its end left.
pub record JournalLife : Type 0 where
  pub number : ℕ
  pub entries : List (Entry Any)
  pub sure : ℕ
  pub found : List ℕ

-- The next life is recovered from the file that a crash left of this one.
pub record Continues (life next : JournalLife) : Type 0 where
  pub left : FindsEntries life.number life.entries life.sure life.found
  pub recovered : RecoveredView
  pub recovers : Recovers life.found recovered
  pub number : next.number ≡ recovered.life

-- lives of one journal, one after another
abbrev pub AreLives : List JournalLife → Type 0
AreLives [] = Unit {0}
AreLives (life ∷ []) = Unit {0}
AreLives (life ∷ next ∷ lives) = Continues life next × AreLives (next ∷ lives)

-- a reply of this life can have this place
abbrev pub IsToldIn : JournalLife → ℕ → Type 0
IsToldIn life told = (place : ℕ) × (place < 2 ^ 44) × (told ≡ told_place life.number place)

-- Each place in a reply of one life is less than each place in a reply of a later life.
abbrev pub PlacesRise : Type 0
PlacesRise =
    (lives : List JournalLife) → AreLives lives
    → (i j : ℕ) (earlier later : JournalLife)
    → i < j → slice_get lives i ≡ Some earlier → slice_get lives j ≡ Some later
    → (a b : ℕ) → IsToldIn earlier a → IsToldIn later b → a < b
