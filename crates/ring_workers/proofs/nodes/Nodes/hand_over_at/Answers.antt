-- What happens at the place of a group.
use Rattle.std.proofs.Common.{◌≡◌, slice_get, sym, ap, ◌∙◌, subst, refl, true≢false}
use Rattle.std.proofs.lemmas.Option.{slice_get_within}
use Rattle.indexmap.specs.IndexMap.{set_value_at}
use Rattle.ring_workers.specs.private.Goings.{Goes}
use Rattle.ring_workers.specs.private.Holdings.{Steps}
use Rattle.ring_workers.specs.Owners.{owner_of, receiver_of}
use Rattle.ring_workers.specs.private.Seatings.{KeepsTerm}
use Rattle.ring_workers.specs.Seatings.{seated_in}
use Rattle.ring_workers.proofs.Dropping.{stranger_held_if}
use Rattle.ring_workers.proofs.Groups.{get_set_value-same, group_kept, holding_set, received_held_if, value_there}
use Rattle.ring_workers.proofs.GroupSteps.{steps_in}
use Rattle.ring_workers.proofs.nodes.Nodes.hand_over_at.Goals as goal

pub unreachable-requires : goal.unreachable-requires
unreachable-requires g c =
    let there = ap (λ h. slice_get h.groups c.args.place) c.self.view_is ∙ c.requires.group.there in
    let within = slice_get_within c.self.inside.groups.entries c.args.place (c.requires.group.name, c.requires.group.seats) there in
    absurd (true≢false (sym (c.in_default.ensures.found.1 within)))

pub invariant_of-self : goal.invariant_of-self
invariant_of-self g c =
    let there = ap (λ h. slice_get h.groups c.args.place) c.self.view_is ∙ c.requires.group.there in
    let found = value_there c.self.inside.groups.entries c.args.place c.requires.group.name c.requires.group.seats c.in-Some.seats.now there c.in-Some.ensures.value in
    let group = c.self.invariant.each (c.requires.group.name, c.requires.group.seats) (record { place = c.args.place; there = there }) in
    let keeps = subst (λ s. KeepsTerm s c.hand_over.new.self) found c.hand_over.ensures.term in
    holding_set c.self.inside.owner.number c.self.inside.owner.workers c.self.inside.groups.entries (set_value_at c.self.inside.groups.entries c.args.place c.hand_over.new.self) c.args.place c.requires.group.name c.requires.group.seats c.hand_over.new.self there refl c.self.invariant
    (group_kept c.self.inside.owner.number c.self.inside.owner.workers c.requires.group.name c.requires.group.seats c.hand_over.new.self group keeps c.hand_over.ensures.kept)

pub returns-clause-steps : goal.returns-clause-steps
returns-clause-steps g c =
    let there = ap (λ h. slice_get h.groups c.args.place) c.self.view_is ∙ c.requires.group.there in
    let found = value_there c.self.inside.groups.entries c.args.place c.requires.group.name c.requires.group.seats c.in-Some.seats.now there c.in-Some.ensures.value in
    let group = c.self.invariant.each (c.requires.group.name, c.requires.group.seats) (record { place = c.args.place; there = there }) in
    let keeps = subst (λ s. KeepsTerm s c.hand_over.new.self) found c.hand_over.ensures.term in
    let goes = subst (λ s. Goes g.E.RingElection.table (seated_in s.places) (seated_in c.hand_over.new.self.places) c.args.outbox.now.items c.hand_over.new.outbox.items) found c.hand_over.ensures.goes in
    subst (λ h. Steps g.E.RingElection.table c.args.envelope.charter h (record { number = c.self.inside.owner.number; workers = c.self.inside.owner.workers; groups = set_value_at c.self.inside.groups.entries c.args.place c.hand_over.new.self }) c.args.outbox.now.items c.hand_over.new.outbox.items) c.self.view_is
    (steps_in g.E.RingElection.table c.args.envelope.charter c.self.inside.owner.number c.self.inside.owner.workers c.self.inside.groups.entries (set_value_at c.self.inside.groups.entries c.args.place c.hand_over.new.self) c.args.place c.requires.group.name c.requires.group.seats c.hand_over.new.self c.args.outbox.now.items c.hand_over.new.outbox.items there refl keeps goes)

pub hand_over-requires : goal.hand_over-requires
hand_over-requires g c =
    let there = ap (λ h. slice_get h.groups c.args.place) c.self.view_is ∙ c.requires.group.there in
    let found = value_there c.self.inside.groups.entries c.args.place c.requires.group.name c.requires.group.seats c.in-Some.seats.now there c.in-Some.ensures.value in
    let group = c.self.invariant.each (c.requires.group.name, c.requires.group.seats) (record { place = c.args.place; there = there }) in
    ap (λ s. owner_of s.workers (receiver_of c.args.envelope)) found ∙ ap (λ n. owner_of n (receiver_of c.args.envelope)) group.workers_is
    ∙ subst (λ h. owner_of h.workers (receiver_of c.args.envelope) ≡ h.number) (sym c.self.view_is) c.requires.owned
    ∙ sym group.number_is ∙ ap (λ s. s.number) (sym found)

pub returns-clause-received : goal.returns-clause-received
returns-clause-received g c =
    let there = ap (λ h. slice_get h.groups c.args.place) c.self.view_is ∙ c.requires.group.there in
    let found = value_there c.self.inside.groups.entries c.args.place c.requires.group.name c.requires.group.seats c.in-Some.seats.now there c.in-Some.ensures.value in
    let group = c.self.invariant.each (c.requires.group.name, c.requires.group.seats) (record { place = c.args.place; there = there }) in
    let keeps = subst (λ s. KeepsTerm s c.hand_over.new.self) found c.hand_over.ensures.term in
    received_held_if c.self.inside.owner.number c.self.inside.owner.workers (set_value_at c.self.inside.groups.entries c.args.place c.hand_over.new.self) c.args.place c.requires.group.name c.hand_over.new.self (get_set_value-same c.self.inside.groups.entries c.args.place c.requires.group.name c.requires.group.seats c.hand_over.new.self there)
    (keeps.number_is ∙ group.number_is) (keeps.workers_is ∙ group.workers_is) c.args.envelope c.hand_over.result c.hand_over.ensures.received

pub returns-clause-strange : goal.returns-clause-strange
returns-clause-strange g c =
    let there = ap (λ h. slice_get h.groups c.args.place) c.self.view_is ∙ c.requires.group.there in
    let found = value_there c.self.inside.groups.entries c.args.place c.requires.group.name c.requires.group.seats c.in-Some.seats.now there c.in-Some.ensures.value in
    let keeps = subst (λ s. KeepsTerm s c.hand_over.new.self) found c.hand_over.ensures.term in
    stranger_held_if c.self.inside.owner.number c.self.inside.owner.workers (set_value_at c.self.inside.groups.entries c.args.place c.hand_over.new.self) c.args.place c.requires.group.name c.hand_over.new.self (get_set_value-same c.self.inside.groups.entries c.args.place c.requires.group.name c.requires.group.seats c.hand_over.new.self there)
    c.args.envelope c.hand_over.result (ap (λ ch. ch.group) keeps.charter_is ∙ c.requires.group.group) (ap (λ ch. ch.term) keeps.charter_is ∙ c.requires.group.term) c.hand_over.ensures.away
