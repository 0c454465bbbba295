-- One round after the other, until one entry is left.
use Rattle.std.proofs.Common.{◌∙◌, refl, rules}
use Rattle.std.proofs.lemmas.Option.{slice_get-get_or}
use Rattle.ring_winner.proofs.Remaining.{IsRemaining-first, IsRemaining-next, first_within, length-next, one_remains}
use Rattle.ring_winner.proofs.rounds.last_active.Goals as goal

pub loop-round-init : goal.loop-round-init
loop-round-init c = IsRemaining-first c.args.ring.now c.in_ok-round.round.items c.first_round.ensures.ring (search rules)

pub loop-round-smaller : goal.loop-round-smaller
loop-round-smaller c = rw c.advance.ensures (length-next c.loop-round.round.items (search rules))

pub loop-round-preserved : goal.loop-round-preserved
loop-round-preserved c = IsRemaining-next c.args.ring.now c.loop-round.round.items c.advance.new.round.items (search rules) c.advance.ensures c.loop-round.invariant

pub unwrap-requires : goal.unwrap-requires
unwrap-requires c =
    let below = first_within c.args.ring.now c.loop-round.round.items c.index.result.now c.index.ensures c.loop-round.invariant in
    rw (c.at.ensures.value ∙ slice_get-get_or c.args.ring.now c.index.result.now.0 0 below) refl

pub returns : goal.returns
returns c = one_remains c.args.ring.now c.loop-round.round.items c.index.result.now c.unwrap.result (search rules) c.index.ensures (search rules) c.loop-round.invariant
