-- The views of a batch and of a journal, which contracts see.
use Rattle.std.specs.Prelude.{◌≡◌, ◌≤◌, ℕ, ◌+◌, ◌-◌, Bool, List, [], ◌∷◌, ◌++◌, length, take, min}
use Rattle.ring_journal.specs.Moments.{Grows, MayFind, Moment}
use Rattle.ring_journal.specs.Lines.{AreFirst, AreLines, lines_in, text_of, whole_lines_of}
use Rattle.ring_journal.specs.Whole.{IsWhole}

-- a batch: its bytes, and how many more can be added without an allocation
pub record BatchView : Type 0 where
  pub bytes : List ℕ
  pub room : ℕ

-- A journal: its lines in order, and the moment of its medium. `pending` bytes are not written yet.
-- `room` more bytes can be added without an allocation, each line counted with its LF. It is broken
-- after the disk failed.
pub record JournalView : Type 0 where
  pub lines : List (List ℕ)
  pub disk : Moment
  pub pending : ℕ
  pub room : ℕ
  pub is_broken : Bool

-- a journal on a medium at this moment, with this batch
abbrev pub view_of : Moment → BatchView → Bool → JournalView
view_of disk batch broken = record {
  lines = whole_lines_of (disk.text ++ batch.bytes);
  disk = disk;
  pending = length batch.bytes;
  room = min batch.room (65536 - length batch.bytes);
  is_broken = broken;
}

-- The text is lines, each with its LF, and none of them has a zero.
pub record HasAll (text : List ℕ) : Type 0 where
  pub are : AreLines (whole_lines_of text)
  pub all : text ≡ text_of (whole_lines_of text)

-- how many of the lines are synced
abbrev pub settled : JournalView → ℕ
settled journal = length (whole_lines_of (take journal.disk.kept journal.disk.text))

-- Only the room changed, and it is no smaller.
pub record IsSame (old new : JournalView) : Type 0 where
  pub lines : new.lines ≡ old.lines
  pub disk : new.disk ≡ old.disk
  pub pending : new.pending ≡ old.pending
  pub room : old.room ≤ new.room
  pub is_broken : new.is_broken ≡ old.is_broken

-- The line follows the others, and is pending.
pub record Adds (old : JournalView) (line : List ℕ) (new : JournalView) : Type 0 where
  pub lines : new.lines ≡ old.lines ++ line ∷ []
  pub disk : new.disk ≡ old.disk
  pub pending : new.pending ≡ old.pending + (length line + 1)
  pub is_broken : new.is_broken ≡ old.is_broken

-- A restart finds the first of the lines, and at least `fewest` of them. It does not refuse the
-- file.
pub record Finds (lines : List (List ℕ)) (fewest : ℕ) (found : List ℕ) : Type 0 where
  pub first : AreFirst lines fewest (lines_in found)
  pub whole : IsWhole found

-- If all of this text was synced, a restart finds all of its lines.
abbrev pub FindsAll : List ℕ → Type 0
FindsAll text =
    (found : List ℕ) → MayFind found text (length text)
    → Finds (whole_lines_of text) (length (whole_lines_of text)) found

-- If a crash comes at any moment between these two, a restart finds the first of the lines. It
-- finds at least those that were settled before.
abbrev pub FindsFirst : JournalView → JournalView → Type 0
FindsFirst old new =
    (m : Moment) → Grows old.disk m → Grows m new.disk
    → (found : List ℕ) → MayFind found m.text m.kept
    → Finds new.lines (settled old) found

-- A crash comes while this text takes the place of a journal's. A restart then finds the lines as
-- before, or all lines of the new text.
pub record FindsEither (old : JournalView) (text : List ℕ) : Type 0 where
  pub before : FindsFirst old old
  pub after : FindsAll text
