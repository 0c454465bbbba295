-- The invariant of a journal.
use Rattle.std.specs.Prelude.{◌≡◌, ◌≤◌, ℕ, ◌+◌, Bool, false, List, ◌++◌, length, take}
use Rattle.ring_journal.specs.Moments.{Moment}
use Rattle.ring_journal.specs.Lines.{AreLines, text_of}

-- The text and the pending bytes are lines, and the synced bytes are the first of these lines. All
-- that was written is synced unless the journal is broken. No more than a batch was ever written
-- and not synced.
pub record IsJournal (disk : Moment) (pending : List ℕ) (broken : Bool) : Type 0 where
  pub lines : List (List ℕ)
  pub some : ℕ
  pub are : AreLines lines
  pub whole : disk.text ++ pending ≡ text_of lines
  pub few : some ≤ length lines
  pub kept : disk.kept ≡ length (text_of (take some lines))
  pub within : disk.kept ≤ length disk.text
  pub synced : broken ≡ false → disk.kept ≡ length disk.text
  pub near : length disk.text ≤ disk.kept + 65536
  pub short : length pending ≤ 65536
