-- The text and the moment after a call that writes.
use Rattle.std.specs.Prelude.{ℕ, List, ◌++◌, Option, Some, None, Result, Ok, Err, length}
use Rattle.ring_journal.specs.Moments.{Moment}
use Rattle.ring_journal.specs.declared.medium.Fault.{Fault}
use Rattle.ring_journal.specs.declared.medium.Fault.TheVariants.{NoMemory, Failed}

-- The batch follows the text. If the disk failed, the batch may be there and counts as written. If
-- an allocation failed, nothing was written.
abbrev pub appended : Result (Unit {0}) Fault → List ℕ → List ℕ → List ℕ
appended (Ok done) text batch = text ++ batch
appended (Err Failed) text batch = text ++ batch
appended (Err NoMemory) text batch = text

-- a moment at which a restart may find this other text, all of it synced
abbrev pub with_other : Moment → List ℕ → Moment
with_other moment other = record { text = moment.text; kept = moment.kept; other = Some other }

-- A text takes the place of the old one, all of it synced. If the disk failed, a restart may find
-- either text. If an allocation failed, nothing was written.
abbrev pub replaced : Result (Unit {0}) Fault → Moment → List ℕ → Moment
replaced (Ok done) old text = record { text = text; kept = length text; other = None }
replaced (Err Failed) old text = with_other old text
replaced (Err NoMemory) old text = old
