-- A closed link is refused; where a link is cut or nothing stands there first, nothing is in flight.
use Rattle.std.proofs.Common.{List, length, nat_lt, slice_get, ap, refl, sym, ◌∙◌}
use Rattle.ring_node.specs.declared.packet.Packet.{Packet}
use Rattle.ring_world.specs.Worlds.{is_cut, on_link}
use Rattle.ring_world.proofs.Cuts.{all_flies, none_flies}
use Rattle.ring_world.proofs.Links.{front_first, no_first, some_first}
use Rattle.ring_world.proofs.tallied_circle.TalliedCircleTraffic.pass.Goals as goal

pub returns-in_default-clause-passes : goal.returns-in_default-clause-passes
returns-in_default-clause-passes g c =
    let closed = rw c.self.view_is at c.is_closed.ensures.value in
    let front = rw c.self.view_is at c.in_default.ensures.value in
    let uncut = rw c.self.view_is at c.is_cut.ensures in
    let flies = all_flies (is_cut c.args.self.now c.args.position c.args.side) (on_link g.E.RingElection.table c.args.self.now c.args.position c.args.side) (sym uncut ∙ c.if-is_cut.false) in
    (rw (sym closed ∙ c.if-is_closed.false) refl, flies ∙ no_first _ (sym front), refl)

pub returns-then-is_cut-clause-passes : goal.returns-then-is_cut-clause-passes
returns-then-is_cut-clause-passes g c =
    let closed = rw c.self.view_is at c.is_closed.ensures.value in
    let cut = rw c.self.view_is at c.is_cut.ensures in
    let none = none_flies (is_cut c.args.self.now c.args.position c.args.side) (on_link g.E.RingElection.table c.args.self.now c.args.position c.args.side) (sym cut ∙ c.if-is_cut.true) in
    (rw (sym closed ∙ c.if-is_closed.false) refl, none, refl)

pub returns-in-Ok-clause-passes : goal.returns-in-Ok-clause-passes
returns-in-Ok-clause-passes g c =
    let closed = rw c.self.view_is at c.is_closed.ensures.value in
    let front = rw c.self.view_is at c.in-Some.ensures.value in
    let uncut = rw c.self.view_is at c.is_cut.ensures in
    let flies = all_flies (is_cut c.args.self.now c.args.position c.args.side) (on_link g.E.RingElection.table c.args.self.now c.args.position c.args.side) (sym uncut ∙ c.if-is_cut.false) in (
      rw (sym closed ∙ c.if-is_closed.false) refl,
      c.if-not-may_tell.false,
      record {
        packet = c.in-Some.packet;
        rest = _;
        front = flies ∙ front_first _ c.in-Some.packet (sym front);
        journals = c.in-Ok.ensures.journals;
        leader_is = c.in-Ok.ensures.news;
      },
    )

pub returns-in-Err-clause-passes : goal.returns-in-Err-clause-passes
returns-in-Err-clause-passes g c =
    let closed = rw c.self.view_is at c.is_closed.ensures.value in
    let front = rw c.self.view_is at c.in-Some.ensures.value in
    let uncut = rw c.self.view_is at c.is_cut.ensures in
    let flies = all_flies (is_cut c.args.self.now c.args.position c.args.side) (on_link g.E.RingElection.table c.args.self.now c.args.position c.args.side) (sym uncut ∙ c.if-is_cut.false) in
    (rw (sym closed ∙ c.if-is_closed.false) (ap (λ (l : List (Packet g.row.E-Msg.Denot)). nat_lt 0 (length l)) flies ∙ some_first _ c.in-Some.packet (sym front), refl), c.in-Err.ensures.err)

pub is_cut-requires : goal.is_cut-requires
is_cut-requires g c = rw (← c.self.view_is) at c.requires

pub front-requires : goal.front-requires
front-requires g c = rw (← c.self.view_is) at c.requires

pub returns-then-is_closed-clause-passes : goal.returns-then-is_closed-clause-passes
returns-then-is_closed-clause-passes g c =
    let closed = rw c.self.view_is at c.is_closed.ensures.value in
    (rw (sym closed ∙ c.if-is_closed.true) refl, refl)

pub returns-then-is_closed-clause-sound : goal.returns-then-is_closed-clause-sound
returns-then-is_closed-clause-sound g c = rw c.self.view_is at c.is_closed.ensures.sound

pub returns-then-is_cut-clause-sound : goal.returns-then-is_cut-clause-sound
returns-then-is_cut-clause-sound g c = rw c.self.view_is at c.is_closed.ensures.sound

pub returns-in_default-clause-sound : goal.returns-in_default-clause-sound
returns-in_default-clause-sound g c = rw c.self.view_is at c.is_closed.ensures.sound

pub returns-then-not-may_tell-clause-sound : goal.returns-then-not-may_tell-clause-sound
returns-then-not-may_tell-clause-sound g c = rw c.self.view_is at c.is_closed.ensures.sound

pub returns-then-not-may_tell-clause-passes : goal.returns-then-not-may_tell-clause-passes
returns-then-not-may_tell-clause-passes g c =
    let closed = rw c.self.view_is at c.is_closed.ensures.value in
    let front = rw c.self.view_is at c.in-Some.ensures.value in
    let uncut = rw c.self.view_is at c.is_cut.ensures in
    let flies = all_flies (is_cut c.args.self.now c.args.position c.args.side) (on_link g.E.RingElection.table c.args.self.now c.args.position c.args.side) (sym uncut ∙ c.if-is_cut.false) in
    (rw (sym closed ∙ c.if-is_closed.false) (ap (λ (l : List (Packet g.row.E-Msg.Denot)). nat_lt 0 (length l)) flies ∙ some_first _ c.in-Some.packet (sym front), refl), refl)

pub hand_over-requires-clause-inside : goal.hand_over-requires-clause-inside
hand_over-requires-clause-inside g c = c.requires

pub hand_over-requires-clause-front : goal.hand_over-requires-clause-front
hand_over-requires-clause-front g c =
    let front = rw c.self.view_is at c.in-Some.ensures.value in
    let uncut = rw c.self.view_is at c.is_cut.ensures in
    let flies = all_flies (is_cut c.args.self.now c.args.position c.args.side) (on_link g.E.RingElection.table c.args.self.now c.args.position c.args.side) (sym uncut ∙ c.if-is_cut.false) in
    ap (λ (l : List (Packet g.row.E-Msg.Denot)). slice_get l 0) flies ∙ sym front

pub hand_over-requires-clause-last : goal.hand_over-requires-clause-last
hand_over-requires-clause-last g c = rw c.self.view_is at c.in-Some.ensures.last

pub hand_over-requires-clause-proper : goal.hand_over-requires-clause-proper
hand_over-requires-clause-proper g c = rw c.self.view_is at c.in-Some.ensures.proper

pub returns-in-Ok-clause-sound : goal.returns-in-Ok-clause-sound
returns-in-Ok-clause-sound g c = c.hand_over.ensures.sound

pub returns-in-Err-clause-sound : goal.returns-in-Err-clause-sound
returns-in-Err-clause-sound g c = c.hand_over.ensures.sound
