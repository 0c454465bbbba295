-- What happens at the place of a group.
use Rattle.std.proofs.Common.{◌≡◌, false, slice_get, sym, ap, ◌∙◌, subst, refl, true≢false}
use Rattle.std.specs.Prelude.{IfOk, IsTrue}
use Rattle.std.proofs.lemmas.Option.{slice_get_within}
use Rattle.indexmap.specs.IndexMap.{set_value_at}
use Rattle.ring_workers.specs.private.Goings.{Goes}
use Rattle.ring_workers.specs.Holdings.{AllSeated}
use Rattle.ring_workers.specs.private.Holdings.{Steps}
use Rattle.ring_workers.specs.private.Seatings.{KeepsTerm}
use Rattle.ring_workers.specs.Seatings.{seated_in}
use Rattle.ring_workers.proofs.Dropping.{other_held}
use Rattle.ring_workers.proofs.Groups.{all_held_if, get_set_value-same, group_kept, holding_set, value_there}
use Rattle.ring_workers.proofs.GroupSteps.{steps_in}
use Rattle.ring_workers.proofs.nodes.Nodes.begin_at.Goals as goal

pub unreachable-requires : goal.unreachable-requires
unreachable-requires g c =
    let there = ap (λ h. slice_get h.groups c.args.place) c.self.view_is ∙ c.requires.there in
    let within = slice_get_within c.self.inside.groups.entries c.args.place (c.requires.name, c.requires.seats) there in
    absurd (true≢false (sym (c.in_default.ensures.found.1 within)))

pub invariant_of-self : goal.invariant_of-self
invariant_of-self g c =
    let there = ap (λ h. slice_get h.groups c.args.place) c.self.view_is ∙ c.requires.there in
    let found = value_there c.self.inside.groups.entries c.args.place c.requires.name c.requires.seats c.in-Some.seats.now there c.in-Some.ensures.value in
    let group = c.self.invariant.each (c.requires.name, c.requires.seats) (record { place = c.args.place; there = there }) in
    let keeps = subst (λ s. KeepsTerm s c.begin.new.self) found c.begin.ensures.term in
    holding_set c.self.inside.owner.number c.self.inside.owner.workers c.self.inside.groups.entries (set_value_at c.self.inside.groups.entries c.args.place c.begin.new.self) c.args.place c.requires.name c.requires.seats c.begin.new.self there refl c.self.invariant
    (group_kept c.self.inside.owner.number c.self.inside.owner.workers c.requires.name c.requires.seats c.begin.new.self group keeps c.begin.ensures.kept)

pub returns-clause-steps : goal.returns-clause-steps
returns-clause-steps g c =
    let there = ap (λ h. slice_get h.groups c.args.place) c.self.view_is ∙ c.requires.there in
    let found = value_there c.self.inside.groups.entries c.args.place c.requires.name c.requires.seats c.in-Some.seats.now there c.in-Some.ensures.value in
    let group = c.self.invariant.each (c.requires.name, c.requires.seats) (record { place = c.args.place; there = there }) in
    let keeps = subst (λ s. KeepsTerm s c.begin.new.self) found c.begin.ensures.term in
    let goes = subst (λ s. Goes g.E.RingElection.table (seated_in s.places) (seated_in c.begin.new.self.places) c.args.outbox.now.items c.begin.new.outbox.items) found c.begin.ensures.goes in
    subst (λ h. Steps g.E.RingElection.table c.args.charter.now.value h (record { number = c.self.inside.owner.number; workers = c.self.inside.owner.workers; groups = set_value_at c.self.inside.groups.entries c.args.place c.begin.new.self }) c.args.outbox.now.items c.begin.new.outbox.items) c.self.view_is
    (steps_in g.E.RingElection.table c.args.charter.now.value c.self.inside.owner.number c.self.inside.owner.workers c.self.inside.groups.entries (set_value_at c.self.inside.groups.entries c.args.place c.begin.new.self) c.args.place c.requires.name c.requires.seats c.begin.new.self c.args.outbox.now.items c.begin.new.outbox.items there refl keeps goes)

pub returns-clause-seated : goal.returns-clause-seated
returns-clause-seated g c =
    let there = ap (λ h. slice_get h.groups c.args.place) c.self.view_is ∙ c.requires.there in
    let found = value_there c.self.inside.groups.entries c.args.place c.requires.name c.requires.seats c.in-Some.seats.now there c.in-Some.ensures.value in
    let group = c.self.invariant.each (c.requires.name, c.requires.seats) (record { place = c.args.place; there = there }) in
    let keeps = subst (λ s. KeepsTerm s c.begin.new.self) found c.begin.ensures.term in
    let said = subst (λ ch. IfOk c.begin.result (λ own. IsTrue own → AllSeated c.begin.new.self.number c.begin.new.self.workers (seated_in c.begin.new.self.places) ch)) c.deref.ensures c.begin.ensures.seated in
    all_held_if c.self.inside.owner.number c.self.inside.owner.workers (set_value_at c.self.inside.groups.entries c.args.place c.begin.new.self) c.args.place c.requires.name c.begin.new.self (get_set_value-same c.self.inside.groups.entries c.args.place c.requires.name c.requires.seats c.begin.new.self there)
    (keeps.number_is ∙ group.number_is) (keeps.workers_is ∙ group.workers_is) c.args.charter.now.value c.begin.result said

pub returns-clause-strange : goal.returns-clause-strange
returns-clause-strange g c =
    let there = ap (λ h. slice_get h.groups c.args.place) c.self.view_is ∙ c.requires.there in
    let found = value_there c.self.inside.groups.entries c.args.place c.requires.name c.requires.seats c.in-Some.seats.now there c.in-Some.ensures.value in
    let keeps = subst (λ s. KeepsTerm s c.begin.new.self) found c.begin.ensures.term in
    let said = subst (λ ch. IfOk c.begin.result (λ own. own ≡ false → c.begin.new.self.charter ≡ ch → ⊥)) c.deref.ensures c.begin.ensures.strange in
    other_held c.self.inside.owner.number c.self.inside.owner.workers (set_value_at c.self.inside.groups.entries c.args.place c.begin.new.self) c.args.place c.requires.name c.begin.new.self (get_set_value-same c.self.inside.groups.entries c.args.place c.requires.name c.requires.seats c.begin.new.self there)
    c.args.charter.now.value c.begin.result (ap (λ ch. ch.group) keeps.charter_is ∙ c.requires.group) (ap (λ ch. ch.term) keeps.charter_is ∙ c.requires.term) said
