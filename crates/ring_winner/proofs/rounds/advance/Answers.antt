-- An entry stays, with its predecessor's value, or it is passed over.
use Rattle.std.proofs.Common.{◌∙◌, length, rules}
use Rattle.ring_peterson.specs.Rounds.{two_of}
use Rattle.ring_peterson.specs.laws.Walk.{walk_next}
use Rattle.ring_winner.proofs.InPlace.{IsInPlace-first, IsInPlace-leaves, IsInPlace-stays, in_place_done}
use Rattle.ring_winner.proofs.rounds.advance.Goals as goal
use Rattle.ring_winner.proofs.rounds.advance.Goals.{else-lt, then-lt+then-lt-2}

pub loop-place-init : goal.loop-place-init
loop-place-init c = IsInPlace-first c.args.round.now.items c.index.result.now c.index-2.result.now c.requires (search rules) (search rules)

pub loop-place-preserved : goal.loop-place-preserved
loop-place-preserved c =
    let next = walk_next c.args.round.now.items in
    let size = length c.args.round.now.items in
    let two = two_of c.loop-place.before c.loop-place.last in
    let round = c.loop-place.round.items in
    let entry = c.index-in-loop-place.result.now in
    elim c.if-lt.branch [
      | then-lt+then-lt-2 w ↦ rw (w.round-is, w.kept-is) (IsInPlace-stays next size c.loop-place.kept c.loop-place.place two round entry (search rules) c.index-in-loop-place.ensures (search rules) c.loop-place.invariant)
      | else-lt w ↦ rw (w.round-is, w.kept-is) (IsInPlace-leaves next size c.loop-place.kept c.loop-place.place two round entry (search rules) c.index-in-loop-place.ensures (search rules) c.loop-place.invariant)
    ]

pub returns : goal.returns
returns c =
    c.truncate.ensures.items
    ∙ in_place_done (walk_next c.args.round.now.items) (length c.args.round.now.items) c.loop-place.kept c.loop-place.place (two_of c.loop-place.before c.loop-place.last) c.loop-place.round.items (search rules) c.loop-place.invariant
