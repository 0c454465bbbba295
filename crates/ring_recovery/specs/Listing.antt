-- The listing of a journal, as text.
use Rattle.std.specs.Prelude.{◌≡◌, ◌≢◌, ◌⊎◌, ◌≤◌, ◌<◌, ℕ, ◌-◌, List, [], ◌∷◌, ◌++◌, Option, Some, None, codes, length, slice_index}
use Rattle.std.specs.Fmt.{decimal}
use Rattle.ring_any.specs.Any.{word_of}
use Rattle.ring_any.specs.declared.any.Any.{Any}
use Rattle.ring_change.specs.declared.change.Change.{Change}
use Rattle.ring_change.specs.declared.change.Change.TheVariants.{Create, Join, Leave, Start, Know}
use Rattle.ring_events.specs.declared.reply.Reply.TheVariants as reply
use Rattle.ring_grammar.specs.Spelling.{reply_line}
use Rattle.ring_journal.specs.Lines.{lines_in, text_of}
use Rattle.ring_lives.specs.Changes.{changes_of}
use Rattle.ring_recovery.specs.Recovered.{RecoveredView, Recovers}
use Rattle.ring_terms.specs.Object.{GroupView, Object, find, leaders}

-- the first line of a group: its name and the word of its algorithm
abbrev pub head_line : List ℕ → Any → List ℕ
head_line name algorithm = codes "group " ++ name ++ codes " " ++ word_of algorithm ++ 10 ∷ []

-- the lines of a group, given its members and the leaders of its terms
abbrev pub lines_of_group : List ℕ → Any → List ℕ → List (Option ℕ) → List ℕ
lines_of_group name algorithm members leads =
    head_line name algorithm
    ++ codes "  " ++ reply_line (reply.Members members)
    ++ codes "  " ++ reply_line (reply.Terms leads)

-- the lines of a group, if there is one
abbrev pub group_text : List ℕ → Any → Option (GroupView Any) → List ℕ
group_text name algorithm None = []
group_text name algorithm (Some group) = lines_of_group name algorithm group.members (leaders group)

-- the lines of the group that a change creates, as it is in these groups
abbrev pub change_text : Object Any → Change Any → List ℕ
change_text groups (Create group algorithm) = group_text group algorithm (find group groups)
change_text groups (Join group node) = []
change_text groups (Leave group number) = []
change_text groups (Start group) = []
change_text groups (Know group term member leader) = []

-- the lines of all groups that changes create, in order of creation
abbrev pub groups_text : Object Any → List (Change Any) → List ℕ
groups_text groups [] = []
groups_text groups (change ∷ changes) = change_text groups change ++ groups_text groups changes

-- the beginning of the last line: the number of the life
abbrev pub life_text : ℕ → List ℕ
life_text life = codes "whole: life " ++ decimal life ++ codes ", "

-- the rest of the last line: the number of changes, the byte at which their text ends, and the
-- length of the torn tail
abbrev pub end_text : ℕ → ℕ → ℕ → List ℕ
end_text changes end torn =
    decimal changes ++ codes " changes end at byte "
    ++ decimal end ++ codes ", "
    ++ decimal torn ++ codes " bytes of a torn tail are dropped\n"

-- The first `used` bytes are in use: only zeros follow them, and the last of them is no zero.
pub record IsUsed (found : List ℕ) (used : ℕ) : Type 0 where
  pub within : used ≤ length found
  pub zeros : (k : ℕ) → used ≤ k → k < length found → slice_index found k ≡ 0
  pub last : (used ≡ 0) ⊎ (slice_index found (used - 1) ≢ 0)

-- The text lists a table that is recovered from these bytes, and the life in which they were
-- written. That life is 0 if the file has no line.
pub record Lists (found text : List ℕ) : Type 0 where
  pub recovered : RecoveredView
  pub recovers : Recovers found recovered
  pub used : ℕ
  pub in_use : IsUsed found used
  pub lines : text
      ≡ groups_text recovered.book (changes_of recovered.history)
      ++ life_text (recovered.life - 1)
      ++ end_text
      (length recovered.history)
      (length (text_of (lines_in found)))
      (used - length (text_of (lines_in found)))
