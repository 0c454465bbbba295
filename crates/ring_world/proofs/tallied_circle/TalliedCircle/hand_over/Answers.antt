-- What is kept beside the nodes is brought up to what is in flight after the receipt.
use Rattle.std.proofs.Common.{◌==◌, cond, length, ap, sym, ◌∙◌, arith}
use Rattle.ring_id.specs.declared.side.Side.TheVariants.{Left, Right}
use Rattle.ring_world.specs.private.LinkSets.{bit_of}
use Rattle.ring_world.specs.private.Tallies.{HasLeft}
use Rattle.ring_world.specs.Worlds.{is_cut, on_link}
use Rattle.ring_world.proofs.Cuts.{front_stands, front_uncut, mark_standing}
use Rattle.ring_world.proofs.Tallies.{some_length, count_after, count_few, sent_grown, sent_waits, tally_after}
use Rattle.ring_world.proofs.tallied_circle.TalliedCircle.hand_over.Goals as goal

pub sent-left_before-requires : goal.sent-left_before-requires
sent-left_before-requires g c = rw (← c.self.view_is) at c.requires.inside

pub sent-right_before-requires : goal.sent-right_before-requires
sent-right_before-requires g c = rw (← c.self.view_is) at c.requires.inside

pub hand_over-requires-clause-inside : goal.hand_over-requires-clause-inside
hand_over-requires-clause-inside g c = rw (← c.self.view_is) at c.requires.inside

pub hand_over-requires-clause-front : goal.hand_over-requires-clause-front
hand_over-requires-clause-front g c = front_stands (is_cut c.self.inside.circle c.args.position c.args.side) (on_link g.E.RingElection.table c.self.inside.circle c.args.position c.args.side) c.args.packet (rw (← c.self.view_is) at c.requires.front)

pub hand_over-requires-clause-proper : goal.hand_over-requires-clause-proper
hand_over-requires-clause-proper g c = rw (← c.self.view_is) at c.requires.proper

pub invariant_of-self : goal.invariant_of-self
invariant_of-self g c = rw c.in_default.ensures.err c.self.invariant

pub returns-in_default-clause-err : goal.returns-in_default-clause-err
returns-in_default-clause-err g c = c.in_default.ensures.err ∙ c.self.view_is

pub returns-in_default-clause-sound : goal.returns-in_default-clause-sound
returns-in_default-clause-sound g c = c.hand_over.ensures.sound

pub place_of-requires : goal.place_of-requires
place_of-requires g c =
    let inside = rw (← c.self.view_is) at c.requires.inside in
    omega (arith, inside, c.self.invariant.sound.is_ring.short)

pub leave-requires-clause-within : goal.leave-requires-clause-within
leave-requires-clause-within g c = c.place_of.ensures.inside

pub mark_sent-left-requires-clause-inside : goal.mark_sent-left-requires-clause-inside
mark_sent-left-requires-clause-inside g c = rw c.in-Ok.ensures.journals (rw (← c.self.view_is) at c.requires.inside)

pub mark_sent-right-requires-clause-inside : goal.mark_sent-right-requires-clause-inside
mark_sent-right-requires-clause-inside g c = rw c.in-Ok.ensures.journals (rw (← c.self.view_is) at c.requires.inside)

pub leave-requires-clause-there : goal.leave-requires-clause-there
leave-requires-clause-there g c =
    let inside = rw (← c.self.view_is) at c.requires.inside in
    let cut = is_cut c.self.inside.circle c.args.position c.args.side in
    let stands = on_link g.E.RingElection.table c.self.inside.circle c.args.position c.args.side in
    let uncut = front_uncut cut stands c.args.packet (rw (← c.self.view_is) at c.requires.front) in
    let front = front_stands cut stands c.args.packet (rw (← c.self.view_is) at c.requires.front) in
    ap (bit_of c.self.inside.ready.words) c.place_of.ensures.value ∙ (c.self.invariant.marked.each c.args.position c.args.side inside).bit ∙ sym (mark_standing cut stands uncut (some_length stands c.args.packet front))

pub mark_sent-left-requires-clause-waits : goal.mark_sent-left-requires-clause-waits
mark_sent-left-requires-clause-waits g c =
    let inside = rw (← c.self.view_is) at c.requires.inside in
    let front = front_stands (is_cut c.self.inside.circle c.args.position c.args.side) (on_link g.E.RingElection.table c.self.inside.circle c.args.position c.args.side) c.args.packet (rw (← c.self.view_is) at c.requires.front) in
    sent_waits _ _ _ _ _ _ c.self.invariant c.args.position inside c.args.side c.args.packet front _ c.in-Ok.ensures.journals Left _ c.sent-left_before.ensures

pub mark_sent-left-requires-clause-grown : goal.mark_sent-left-requires-clause-grown
mark_sent-left-requires-clause-grown g c =
    let inside = rw (← c.self.view_is) at c.requires.inside in
    let front = front_stands (is_cut c.self.inside.circle c.args.position c.args.side) (on_link g.E.RingElection.table c.self.inside.circle c.args.position c.args.side) c.args.packet (rw (← c.self.view_is) at c.requires.front) in
    sent_grown _ _ _ _ _ _ c.self.invariant c.args.position inside c.args.side c.args.packet front _ c.in-Ok.ensures.journals Left _ c.sent-left_before.ensures

pub mark_sent-right-requires-clause-waits : goal.mark_sent-right-requires-clause-waits
mark_sent-right-requires-clause-waits g c =
    let inside = rw (← c.self.view_is) at c.requires.inside in
    let front = front_stands (is_cut c.self.inside.circle c.args.position c.args.side) (on_link g.E.RingElection.table c.self.inside.circle c.args.position c.args.side) c.args.packet (rw (← c.self.view_is) at c.requires.front) in
    sent_waits _ _ _ _ _ _ c.self.invariant c.args.position inside c.args.side c.args.packet front _ c.in-Ok.ensures.journals Right _ c.sent-right_before.ensures

pub mark_sent-right-requires-clause-grown : goal.mark_sent-right-requires-clause-grown
mark_sent-right-requires-clause-grown g c =
    let inside = rw (← c.self.view_is) at c.requires.inside in
    let front = front_stands (is_cut c.self.inside.circle c.args.position c.args.side) (on_link g.E.RingElection.table c.self.inside.circle c.args.position c.args.side) c.args.packet (rw (← c.self.view_is) at c.requires.front) in
    sent_grown _ _ _ _ _ _ c.self.invariant c.args.position inside c.args.side c.args.packet front _ c.in-Ok.ensures.journals Right _ c.sent-right_before.ensures

pub after_one-self-inside-requires-clause-few : goal.after_one-self-inside-requires-clause-few
after_one-self-inside-requires-clause-few g c =
    let inside = rw (← c.self.view_is) at c.requires.inside in
    let front = front_stands (is_cut c.self.inside.circle c.args.position c.args.side) (on_link g.E.RingElection.table c.self.inside.circle c.args.position c.args.side) c.args.packet (rw (← c.self.view_is) at c.requires.front) in
    let few = count_few _ _ _ _ _ _ c.self.invariant c.args.position inside c.args.side c.args.packet front _ c.in-Ok.ensures.journals in
    omega (arith, few, c.mark_sent-left.type_inv, c.mark_sent-right.type_inv)

pub after_one-self-inside-requires-clause-some : goal.after_one-self-inside-requires-clause-some
after_one-self-inside-requires-clause-some g c =
    let inside = rw (← c.self.view_is) at c.requires.inside in
    let front = front_stands (is_cut c.self.inside.circle c.args.position c.args.side) (on_link g.E.RingElection.table c.self.inside.circle c.args.position c.args.side) c.args.packet (rw (← c.self.view_is) at c.requires.front) in
    let whole = count_after _ _ _ _ _ _ c.self.invariant c.args.position inside c.args.side c.args.packet front _ c.in-Ok.ensures.journals _ _ _ _
    c.sent-left_before.ensures c.sent-right_before.ensures c.mark_sent-left.ensures.more c.mark_sent-right.ensures.more in
    omega (arith, whole)

pub invariant_of-self-2 : goal.invariant_of-self-2
invariant_of-self-2 g c =
    let inside = rw (← c.self.view_is) at c.requires.inside in
    let front = front_stands (is_cut c.self.inside.circle c.args.position c.args.side) (on_link g.E.RingElection.table c.self.inside.circle c.args.position c.args.side) c.args.packet (rw (← c.self.view_is) at c.requires.front) in
    let cut = is_cut c.self.inside.circle c.args.position c.args.side in
    let stands = on_link g.E.RingElection.table c.self.inside.circle c.args.position c.args.side in
    let uncut = front_uncut cut stands c.args.packet (rw (← c.self.view_is) at c.requires.front) in
    let last = rw (← c.self.view_is) at c.requires.last in
    let left : HasLeft c.self.inside.ready.words c.args.position c.args.side (length stands == 1) c.leave.new.self.words = record {
      bit = ap (bit_of c.leave.new.self.words) (sym c.place_of.ensures.value) ∙ c.leave.ensures.here ∙ ap (λ b. cond b 0 1) last;
      others = rw c.place_of.ensures.value at c.leave.ensures.others;
    } in
    rw c.after_one-self-inside.ensures
    (tally_after _ _ _ _ _ _ c.self.invariant c.args.position inside c.args.side c.args.packet front _ c.in-Ok.ensures.journals _ _ _ _
    c.sent-left_before.ensures c.sent-right_before.ensures c.mark_sent-left.ensures.more c.mark_sent-right.ensures.more
    c.in-Ok.ensures.sound uncut _ _ _ left c.mark_sent-left.ensures.marked c.mark_sent-right.ensures.marked)

pub returns-clause-journals : goal.returns-clause-journals
returns-clause-journals g c = rw c.self.view_is at c.in-Ok.ensures.journals

pub returns-clause-news : goal.returns-clause-news
returns-clause-news g c = rw c.self.view_is at c.in-Ok.ensures.news

pub returns-clause-sound : goal.returns-clause-sound
returns-clause-sound g c = c.hand_over.ensures.sound
