-- The invariants of a book, a group and a term, and the words of their inner functions.
use Rattle.std.specs.Prelude.{◌≡◌, ◌+◌, ◌≤◌, ℕ, Bool, false, List, length, Some, slice_get}
use Rattle.std.specs.Map.{lookup}
use Rattle.std.specs.Str.{bytes_eq}
use Rattle.ring_id.specs.Identity.{number_of}
use Rattle.ring_roster.specs.Ring.{has_repeat}
use Rattle.ring_node.specs.Reports.{Told}
use Rattle.ring_terms.specs.declared.term.Term.{Term}
use Rattle.ring_terms.specs.declared.group.Group.{Group}
use Rattle.ring_terms.specs.declared.standing.Noting.{Noting}
use Rattle.ring_terms.specs.declared.standing.Noting.TheVariants.{Noted, Known, Stale}
use Rattle.ring_terms.specs.Object.{GroupView}
use Rattle.ring_terms.specs.Charters.{running_charter}
use Rattle.ring_terms.specs.Kept.{IsTermKept}
use Rattle.ring_terms.specs.Moves.{Informs, InformsIn}
use Rattle.ring_terms.specs.Standings.{IsInformed, IsInformedIn}
use Rattle.ring_terms.specs.Books.{term_view}

-- the facts about a term as it is stored
abbrev pub IsSound : {E : Type 0} → (E → List ℕ → ℕ) → Term E → Type 0
IsSound winner t = IsTermKept (winner t.charter.value.algorithm) (term_view t)

-- the effect of filing a report on the last term of its group
abbrev pub NotesTerm : {E : Type 0} → (E → Bool) → Told E → Term E → Noting → Term E → Type 0
NotesTerm greatest report old Noted new =
    (old.charter.value ≡ report.charter) × (new.charter ≡ old.charter)
    × InformsIn (greatest report.charter.algorithm) (number_of report.member) report.leader
    (term_view old) (term_view new)
NotesTerm greatest report old Known new =
    (old.charter.value ≡ report.charter) × (new ≡ old)
    × IsInformedIn (number_of report.member) report.leader (term_view old)
NotesTerm greatest report old Stale new = (old.charter.value ≡ report.charter → ⊥) × (new ≡ old)

-- the effect of filing a report on a group with this name
abbrev pub NotesGroup : {E : Type 0} → (E → Bool) → List ℕ → Told E → GroupView E → Noting
    → GroupView E → Type 0
NotesGroup greatest name report old Noted new =
    (running_charter name old ≡ Some report.charter)
    × Informs (greatest report.charter.algorithm) (number_of report.member) report.leader old new
NotesGroup greatest name report old Known new =
    (running_charter name old ≡ Some report.charter) × (new ≡ old)
    × IsInformed (number_of report.member) report.leader old
NotesGroup greatest name report old Stale new =
    (running_charter name old ≡ Some report.charter → ⊥) × (new ≡ old)

-- a term of this group: its charter has the group's name and algorithm and this number
pub record IsTermOf {E : Type 0} (winner : E → List ℕ → ℕ) (name : List ℕ) (algorithm : E)
    (number : ℕ) (t : Term E) : Type 0 where
  pub chartered : t.charter.value
      ≡ record {
        group = name;
        term = number;
        algorithm = algorithm;
        roster = t.charter.value.roster;
      }
  pub kept : IsSound winner t

-- a group under this name
pub record IsGroupOf {E : Type 0} (winner : E → List ℕ → ℕ) (name : List ℕ) (g : Group E)
    : Type 0 where
  pub named : g.name ≡ name
  pub few : length g.members.items ≤ 256
  pub distinct : has_repeat g.members.items ≡ false
  pub short : length g.terms.items ≤ 1000
  pub each : (n : ℕ) (t : Term E) → slice_get g.terms.items n ≡ Some t
      → IsTermOf winner name g.algorithm (n + 1) t

-- a book's entries
pub record IsBook {E : Type 0} (winner : E → List ℕ → ℕ) (entries : List (List ℕ × Group E))
    : Type 0 where
  pub few : length entries ≤ 256
  pub each : (name : List ℕ) (g : Group E) → lookup (bytes_eq name) entries ≡ Some g
      → IsGroupOf winner name g
