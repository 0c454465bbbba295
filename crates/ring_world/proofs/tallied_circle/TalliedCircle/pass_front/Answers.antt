-- The link isn't cut, and so what stands there first is first in flight.
use Rattle.std.proofs.Common.{List, slice_get, ap, sym, ◌∙◌}
use Rattle.ring_node.specs.declared.packet.Packet.{Packet}
use Rattle.ring_world.specs.Worlds.{is_cut, on_link}
use Rattle.ring_world.proofs.Answering.{of_answer}
use Rattle.ring_world.proofs.Cuts.{all_flies, waits_stands, waits_uncut}
use Rattle.ring_world.proofs.Links.{front_first}
use Rattle.ring_world.proofs.tallied_circle.TalliedCircle.pass_front.Goals as goal

pub unreachable-requires : goal.unreachable-requires
unreachable-requires g c =
    let front = rw c.self.view_is at c.in_default.ensures.value in
    waits_stands (is_cut c.args.self.now c.args.position c.args.side) (on_link g.E.RingElection.table c.args.self.now c.args.position c.args.side) c.requires.waits (sym front)

pub front-requires : goal.front-requires
front-requires g c = rw (← c.self.view_is) at c.requires.inside

pub hand_over-requires-clause-inside : goal.hand_over-requires-clause-inside
hand_over-requires-clause-inside g c = c.requires.inside

pub hand_over-requires-clause-last : goal.hand_over-requires-clause-last
hand_over-requires-clause-last g c = rw c.self.view_is at c.in-Some.ensures.last

pub hand_over-requires-clause-proper : goal.hand_over-requires-clause-proper
hand_over-requires-clause-proper g c = rw c.self.view_is at c.in-Some.ensures.proper

pub hand_over-requires-clause-front : goal.hand_over-requires-clause-front
hand_over-requires-clause-front g c =
    let cut = is_cut c.args.self.now c.args.position c.args.side in
    let stands = on_link g.E.RingElection.table c.args.self.now c.args.position c.args.side in
    let front = rw c.self.view_is at c.in-Some.ensures.value in
    ap (λ (l : List (Packet g.row.E-Msg.Denot)). slice_get l 0) (all_flies cut stands (waits_uncut cut stands c.requires.waits)) ∙ sym front

pub returns-clause-passed : goal.returns-clause-passed
returns-clause-passed g c =
    let cut = is_cut c.args.self.now c.args.position c.args.side in
    let stands = on_link g.E.RingElection.table c.args.self.now c.args.position c.args.side in
    let front = rw c.self.view_is at c.in-Some.ensures.value in
    let flies = all_flies cut stands (waits_uncut cut stands c.requires.waits) ∙ front_first _ c.in-Some.packet (sym front) in
    of_answer c.hand_over.result c.hand_over.ensures.journals c.hand_over.ensures.news
    (λ journals leader news. record { packet = c.in-Some.packet; rest = _; front = flies; journals = journals; leader_is = news })

pub returns-clause-err : goal.returns-clause-err
returns-clause-err g c = c.hand_over.ensures.err

pub returns-clause-sound : goal.returns-clause-sound
returns-clause-sound g c = c.hand_over.ensures.sound
