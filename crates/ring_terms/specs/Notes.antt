-- The effect of a filed report on the object.
use Rattle.std.specs.Prelude.{◌≡◌, ℕ, Bool, List, Some}
use Rattle.ring_id.specs.Identity.{number_of}
use Rattle.ring_node.specs.Reports.{Told}
use Rattle.ring_terms.specs.declared.standing.Noting.{Noting}
use Rattle.ring_terms.specs.declared.standing.Noting.TheVariants.{Noted, Known, Stale}
use Rattle.ring_terms.specs.Object.{InGroup, Object, OfGroup}
use Rattle.ring_terms.specs.Charters.{running_in}
use Rattle.ring_terms.specs.Moves.{Informs}
use Rattle.ring_terms.specs.Standings.{IsInformed}

-- The effect of filing a report on the object. Noted: the charter is that of the last term of the
-- group with this name, and the member becomes informed of the leader. Known: the charter is that,
-- and the member was informed of it already. Stale: the charter is another.
abbrev pub NotesOf : {E : Type 0} → (E → Bool) → List ℕ → Told E → Object E → Noting → Object E
    → Type 0
NotesOf greatest name report old Noted new =
    (running_in name old ≡ Some report.charter)
    × InGroup name
    (Informs (greatest report.charter.algorithm) (number_of report.member) report.leader) old
    new
NotesOf greatest name report old Known new =
    (running_in name old ≡ Some report.charter) × (new ≡ old)
    × OfGroup name (IsInformed (number_of report.member) report.leader) old
NotesOf greatest name report old Stale new =
    (running_in name old ≡ Some report.charter → ⊥) × (new ≡ old)

-- the effect of filing a report on the object, in the group that its charter names
abbrev pub Notes : {E : Type 0} → (E → Bool) → Told E → Object E → Noting → Object E → Type 0
Notes greatest report old noting new = NotesOf greatest report.charter.group report old noting new
