-- A member gets the leader if its mark is set. If there is no leader, no mark is set.
use Rattle.std.proofs.Common.{◌≡◌, ◌<◌, false, true, length, refl, arith}
use Rattle.std.specs.Prelude.{Some, slice_get}
use Rattle.std.proofs.lemmas.List.Quantifiers.{position-Some}
use Rattle.std.proofs.lemmas.Option.{slice_get_read}
use Rattle.ring_roster.specs.Ring.{is_numbered, position_of}
use Rattle.ring_terms.proofs.Informing.{known, uninformed_without_leader}
use Rattle.ring_terms.proofs.term.Term.who.Goals.{in_default-leader-via-in-Some-leader+else-index, in_default-leader-via-in_default-leader}
use Rattle.ring_terms.proofs.term.Term.who.Goals as goal

pub returns-in-Some-leader : goal.returns-in-Some-leader
returns-in-Some-leader g c =
    let marks = c.args.self.now.informed.items in
    let placed : position_of c.args.node c.args.self.now.charter.value.roster ≡ Some c.in-Some.position = cc in
    let within : c.in-Some.position < length c.args.self.now.charter.value.roster = (position-Some (is_numbered c.args.node) _ _ 0 placed).0 in
    let informed : slice_get marks c.in-Some.position ≡ Some true =
    slice_get_read marks (length marks) c.in-Some.position true refl (omega (arith, c.requires.marked, within)) (rw c.if-index.true at c.index.ensures) in
    (rw placed refl, (cc, known _ _ c.requires _ _ _ placed (c.requires.wins _ c.in-Some-leader.is) informed))

pub returns-in_default-leader : goal.returns-in_default-leader
returns-in_default-leader g c =
    let marks = c.args.self.now.informed.items in
    let placed : position_of c.args.node c.args.self.now.charter.value.roster ≡ Some c.in-Some.position = cc in
    let within : c.in-Some.position < length c.args.self.now.charter.value.roster = (position-Some (is_numbered c.args.node) _ _ 0 placed).0 in
    let uninformed : slice_get marks c.in-Some.position ≡ Some false =
    elim c.in_default-leader.branch [
      | in_default-leader-via-in-Some-leader+else-index w ↦ slice_get_read marks (length marks) c.in-Some.position false refl (omega (arith, c.requires.marked, within)) (rw w.if-index.false at w.index.ensures)
      | in_default-leader-via-in_default-leader w ↦ uninformed_without_leader _ _ c.requires c.in-Some.position within w.in_default-leader.is
    ] in
    (rw placed refl, (cc, record { position = c.in-Some.position; placed = placed; uninformed = uninformed }))
