-- Seats of an older term give way.
use Rattle.std.proofs.Common.{[], slice_get, sym, ap, ◌∙◌, subst, refl, true≢false}
use Rattle.std.proofs.lemmas.Option.{slice_get_within}
use Rattle.std.proofs.lemmas.Result.{err_from_is_err_and}
use Rattle.indexmap.specs.IndexMap.{set_value_at}
use Rattle.ring_workers.specs.private.Holdings.{IsGroupAt, Steps}
use Rattle.ring_workers.proofs.Groups.{empty_group, get_set_value-same, holding_set}
use Rattle.ring_workers.proofs.GroupSteps.{steps_none, steps_replace}
use Rattle.ring_workers.proofs.nodes.Nodes.replace.Goals as goal

pub unreachable-requires : goal.unreachable-requires
unreachable-requires g c =
    let there = ap (λ h. slice_get h.groups c.args.place) c.self.view_is ∙ c.requires.there in
    let within = slice_get_within c.self.inside.groups.entries c.args.place (c.requires.name, c.requires.seats) there in
    absurd (true≢false (sym (c.in_default.ensures.found.1 within)))

pub invariant_of-self : goal.invariant_of-self
invariant_of-self g c =
    let there = ap (λ h. slice_get h.groups c.args.place) c.self.view_is ∙ c.requires.there in
    let old = c.self.invariant.each (c.requires.name, c.requires.seats) (record { place = c.args.place; there = there }) in
    let group = empty_group c.self.inside.owner.number c.self.inside.owner.workers c.args.charter.now.value c.in_ok-seats.seats c.in_ok-seats.ensures.empty c.in_ok-seats.ensures.kept in
    holding_set c.self.inside.owner.number c.self.inside.owner.workers c.self.inside.groups.entries (set_value_at c.self.inside.groups.entries c.args.place c.in_ok-seats.seats) c.args.place
    c.requires.name c.requires.seats c.in_ok-seats.seats there refl c.self.invariant
    (subst (λ n. IsGroupAt c.self.inside.owner.number c.self.inside.owner.workers n c.in_ok-seats.seats) (sym c.requires.group ∙ old.named) group)

pub returns-clause-steps : goal.returns-clause-steps
returns-clause-steps g c =
    let there = ap (λ h. slice_get h.groups c.args.place) c.self.view_is ∙ c.requires.there in
    let old = c.self.invariant.each (c.requires.name, c.requires.seats) (record { place = c.args.place; there = there }) in
    let after = set_value_at c.self.inside.groups.entries c.args.place c.in_ok-seats.seats in
    subst (λ h. Steps g.E.RingElection.table c.args.charter.now.value h (record { number = c.self.inside.owner.number; workers = c.self.inside.owner.workers; groups = set_value_at c.self.inside.groups.entries c.args.place c.in_ok-seats.seats }) [] []) c.self.view_is
    (steps_replace g.E.RingElection.table c.args.charter.now.value c.self.inside.owner.number c.self.inside.owner.workers c.self.inside.groups.entries after c.args.place
    c.requires.name c.requires.seats c.in_ok-seats.seats there refl c.in_ok-seats.ensures.empty old.seated c.requires.group c.requires.term)

pub returns-clause-place : goal.returns-clause-place
returns-clause-place g c =
    let there = ap (λ h. slice_get h.groups c.args.place) c.self.view_is ∙ c.requires.there in
    record {
      name = c.requires.name;
      seats = c.in_ok-seats.seats;
      there = get_set_value-same c.self.inside.groups.entries c.args.place c.requires.name c.requires.seats c.in_ok-seats.seats there;
      group = ap (λ s. s.charter.group) c.in_ok-seats.ensures.empty;
      term = ap (λ s. s.charter.term) c.in_ok-seats.ensures.empty;
    }

pub returns-in_err-seats : goal.returns-in_err-seats
returns-in_err-seats g c =
    let p = err_from_is_err_and c.from_residual.result c.from_residual.ensures.1 in
    rw p.1
    (record {
      steps = steps_none g.E.RingElection.table c.args.charter.now.value c.args.self.now c.args.self.now _ _ refl refl;
      place = tt;
    })
