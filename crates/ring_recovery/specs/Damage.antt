-- The reasons why a file is refused.
use Rattle.std.specs.Prelude.{◌≡◌, ◌≢◌, ◌⊎◌, ◌<◌, ◌^◌, ℕ, List, [], ◌∷◌, ◌++◌, Some, None, length}
use Rattle.ring_id.specs.Identity.{number_of}
use Rattle.ring_any.specs.Any.{any_greatest, any_winner}
use Rattle.ring_any.specs.declared.any.Any.{Any}
use Rattle.ring_node.specs.declared.charter.Charter.{Charter}
use Rattle.ring_node.specs.Reports.{IsTruthful}
use Rattle.ring_terms.specs.Charters.{running_in}
use Rattle.ring_terms.specs.Commands.{create_refusal, in_group, join_refusal, leave_refusal, start_refusal}
use Rattle.ring_terms.specs.Object.{Object, OfGroup}
use Rattle.ring_table.specs.Histories.{IsInformedOf}
use Rattle.ring_journal.specs.Lines.{lines_in, text_of}
use Rattle.ring_journal.specs.Whole.{IsBadAt}
use Rattle.ring_change.specs.declared.change.Change.{Change}
use Rattle.ring_change.specs.declared.change.Change.TheVariants.{Create, Join, Leave, Start, Know}
use Rattle.ring_change.specs.Checks.{first_check}
use Rattle.ring_change.specs.Lines.{marked_line}
use Rattle.ring_change.specs.Spelling.{IsChange}
use Rattle.ring_lives.specs.Replays.{Replays}
use Rattle.ring_recovery.specs.JournalLines.{IsZerosAlone, check_of, heading, heading_words, journal_lines}
use Rattle.ring_recovery.specs.Life.{IsLife}
use Rattle.ring_recovery.specs.declared.fault.RecoverFault.{RecoverFault}
use Rattle.ring_recovery.specs.declared.fault.RecoverFault.TheVariants.{Bad, Lives, NoMemory, Version}

-- A report may come that this member knows this leader of this term. It is the last term of the
-- group, and the member is in its ring. The leader is the winner, and the member does not know it
-- yet.
pub record MayKnow (group : List ℕ) (term member leader : ℕ) (groups : Object Any) : Type 0 where
  pub charter : Charter Any
  pub running : running_in group groups ≡ Some charter
  pub numbered : charter.term ≡ term
  pub truthful : IsTruthful (any_winner charter.algorithm) charter.roster member leader
  pub news : ¬ (OfGroup group (IsInformedOf term (number_of member) leader) groups)

-- A change may come: its command has no refusal, or its report may come.
abbrev pub MayCome : Object Any → Change Any → Type 0
MayCome groups (Create group algorithm) = create_refusal group groups ≡ None
MayCome groups (Join group node) = in_group group (join_refusal node) groups ≡ None
MayCome groups (Leave group node) = in_group group (leave_refusal node) groups ≡ None
MayCome groups (Start group) = in_group group start_refusal groups ≡ None
MayCome groups (Know group term member leader) = MayKnow group term member leader groups

-- A line of a file begins at this byte, and no change that may come there has this line. The lines
-- before it are those of changes that lead to these groups.
pub record IsBadLine (found : List ℕ) (at : ℕ) : Type 0 where
  pub life : ℕ
  pub before : List (Change Any)
  pub groups : Object Any
  pub line : List ℕ
  pub after : List (List ℕ)
  pub lines : lines_in found ≡ journal_lines life before ++ line ∷ after
  pub place : at ≡ length (text_of (journal_lines life before))
  pub inside : at < length found
  pub replays : Replays any_greatest [] before groups
  pub bad : (change : Change Any) → IsChange change
      → line ≡ marked_line (check_of first_check before) change
      → ¬ (MayCome groups change)

-- A file begins with the words of a heading. The rest of its first line, which begins at this byte,
-- is not the number of a life and its mark.
pub record IsBadHeading (found : List ℕ) (at : ℕ) : Type 0 where
  pub place : at ≡ length heading_words
  pub rest : List ℕ
  pub begins : found ≡ heading_words ++ rest
  pub bad : (life : ℕ) (lines : List (List ℕ)) → IsLife life → lines_in found ≢ heading life ∷ lines

-- A file has a byte that is no zero, and does not begin with the words of a heading.
pub record IsOther (found : List ℕ) : Type 0 where
  pub some : ¬ (IsZerosAlone found)
  pub other : (rest : List ℕ) → found ≢ heading_words ++ rest

-- A file is of the last life that a journal has.
abbrev pub IsOfLastLife : List ℕ → Type 0
IsOfLastLife found = (lines : List (List ℕ)) × (lines_in found ≡ heading (2 ^ 20) ∷ lines)

-- a reason for each fault; out of memory needs none
abbrev pub IsFaultOf : List ℕ → RecoverFault → Type 0
IsFaultOf found (Bad at) = IsBadAt found at ⊎ IsBadHeading found at ⊎ IsBadLine found at
IsFaultOf found Version = IsOther found
IsFaultOf found Lives = IsOfLastLife found
IsFaultOf found NoMemory = Unit {0}
