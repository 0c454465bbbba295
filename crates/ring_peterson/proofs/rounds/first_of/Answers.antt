-- Each position of the ring holds its identity.
use Rattle.std.proofs.Common.{◌∙◌, arith, refl, rules}
use Rattle.std.proofs.lemmas.Option.{slice_get-get_or}
use Rattle.ring_peterson.specs.Rounds.{first_round, numbered}
use Rattle.ring_peterson.proofs.Walked.{nothing_left, numbered_one_more}
use Rattle.ring_peterson.proofs.rounds.first_of.Goals as goal
use Rattle.ring_peterson.proofs.rounds.first_of.Goals.{in-Some+in_ok-map_err, in_default}

pub loop-position-init : goal.loop-position-init
loop-position-init c = search rules

pub loop-position-preserved : goal.loop-position-preserved
loop-position-preserved c =
    let ring = c.args.ring.now in
    let here = c.at.ensures.value in
    let size = c.len-position-end.ensures.value in
    let below = c.loop-position-test.true in
    elim c.match-at.branch [
      | in-Some+in_ok-map_err w ↦ numbered_one_more ring (first_round ring) c.loop-position.position w.in-Some.node c.loop-position.round.items _ (search rules) (search rules) c.loop-position.invariant
      | in_default w ↦ absurd (w.in_default.not-Some _ (here ∙ slice_get-get_or ring c.loop-position.position 0 (omega arith)))
    ]

pub returns : goal.returns
returns c =
    let size = c.len-position-end.ensures.value in
    let past = c.loop-position-test.false in
    nothing_left (numbered c.loop-position.position) c.args.ring.now c.loop-position.position c.loop-position.round.items (first_round c.args.ring.now) refl (omega arith) c.loop-position.invariant
