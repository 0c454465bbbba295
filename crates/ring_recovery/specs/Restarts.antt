-- The table that a restart recovers after a crash.
use Rattle.std.specs.Prelude.{◌≡◌, ◌≤◌, ◌+◌, ℕ, List, [], length, take}
use Rattle.ring_any.specs.Any.{any_greatest, any_two_way}
use Rattle.ring_any.specs.declared.any.Any.{Any}
use Rattle.ring_terms.specs.Object.{Object}
use Rattle.ring_table.specs.Histories.{IsLegal}
use Rattle.ring_table.specs.declared.entry.Entry.{Entry}
use Rattle.ring_lives.specs.Changes.{changes_of}
use Rattle.ring_lives.specs.Replays.{Replays}
use Rattle.ring_recovery.specs.Recovered.{RecoveredView, Recovers}
use Rattle.ring_recovery.specs.Written.{FindsEntries}

-- A table was recovered as it was after the first of these entries, and at least after the first
-- `fewest`. The changes of these lead to its groups. It begins the life after this one.
pub record IsAfterFirst (life : ℕ) (entries : List (Entry Any)) (fewest : ℕ)
    (recovered : RecoveredView) : Type 0 where
  pub next : recovered.life ≡ life + 1
  pub left : ℕ
  pub least : fewest ≤ left
  pub most : left ≤ length entries
  pub leads : Replays any_greatest [] (changes_of (take left entries)) recovered.book
  pub groups : (groups : Object Any)
      → IsLegal any_two_way any_greatest (take left entries) groups
      → recovered.book ≡ groups

-- each table that is recovered from a file that a crash left is as it was after the first entries
abbrev pub RestartsAfterFirst : Type 0
RestartsAfterFirst =
    (life : ℕ) (entries : List (Entry Any)) (fewest : ℕ) (found : List ℕ)
    (recovered : RecoveredView)
    → FindsEntries life entries fewest found → Recovers found recovered
    → IsAfterFirst life entries fewest recovered
