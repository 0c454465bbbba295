-- The member at a position of the ring becomes informed, and the leader is the winner of the ring.
use Rattle.std.proofs.Common.{◌≡◌, false, true, length, refl, arith}
use Rattle.std.specs.Prelude.{Some, slice_get, slice_index}
use Rattle.std.proofs.lemmas.Option.{slice_get-get_or, slice_get_read}
use Rattle.ring_id.specs.Identity.{number_of}
use Rattle.ring_roster.specs.Ring.{position_of}
use Rattle.ring_terms.proofs.Members.{position_of-at}
use Rattle.ring_terms.proofs.Informing.{inform_kept, known, noted, winner_named}
use Rattle.ring_terms.proofs.term.Term.inform.Goals as goal

pub returns-then-index-clause-notes : goal.returns-then-index-clause-notes
returns-then-index-clause-notes g c =
    let ring = c.args.self.now.charter.value.roster in
    let placed : position_of (number_of (slice_index ring c.args.position)) ring ≡ Some c.args.position =
    position_of-at ring c.args.position _ c.requires.sound.is_ring.distinct (slice_get-get_or ring c.args.position 0 c.requires.inside) in
    let informed : slice_get c.args.self.now.informed.items c.args.position ≡ Some true =
    slice_get_read c.args.self.now.informed.items (length c.args.self.now.informed.items) c.args.position true refl (omega (arith, c.requires.sound.marked, c.requires.inside)) (rw c.if-index.true at c.index.ensures) in
    (refl, refl, known _ _ c.requires.sound _ _ _ placed c.requires.wins informed)

pub returns-clause-notes : goal.returns-clause-notes
returns-clause-notes g c =
    let ring = c.args.self.now.charter.value.roster in
    let placed : position_of (number_of (slice_index ring c.args.position)) ring ≡ Some c.args.position =
    position_of-at ring c.args.position _ c.requires.sound.is_ring.distinct (slice_get-get_or ring c.args.position 0 c.requires.inside) in
    let uninformed : slice_get c.args.self.now.informed.items c.args.position ≡ Some false =
    slice_get_read c.args.self.now.informed.items (length c.args.self.now.informed.items) c.args.position false refl (omega (arith, c.requires.sound.marked, c.requires.inside)) (rw c.if-index.false at c.index.ensures) in
    let named = winner_named (g.met.E.RingElection.lawful c.args.self.now.charter.value.algorithm) ring c.requires.sound.is_ring in
    (refl, refl, noted _ _ c.requires.sound _ _ _ placed c.requires.wins _ named uninformed)

-- The ring stays, there are as many marks as before, and the leader is the winner.
pub returns-clause-kept : goal.returns-clause-kept
returns-clause-kept g c =
    inform_kept _ _ c.requires.sound c.args.position c.args.leader c.requires.inside c.requires.wins
