-- The view of a medium in memory, which contracts see.
use Rattle.std.specs.Prelude.{ℕ, List, None}
use Rattle.ring_journal.specs.Moments.{Moment}
use Rattle.ring_journal.specs.declared.memory.MemoryMedium.{MemoryMedium}

-- the bytes that were written
abbrev pub memory_text : MemoryMedium → List ℕ
memory_text memory = memory.text.items

-- how many of the first bytes were synced
abbrev pub memory_kept : MemoryMedium → ℕ
memory_kept memory = memory.kept

-- no other text is in its place
abbrev pub memory_moment : MemoryMedium → Moment
memory_moment memory = record { text = memory.text.items; kept = memory.kept; other = None }
