-- The place of a group, and the term that it holds.
use Rattle.std.proofs.Common.{◌≡◌, ◌<◌, slice_get, sym, ap, ◌∙◌, subst, arith, refl}
use Rattle.ring_workers.specs.Holdings.{charters_of}
use Rattle.ring_workers.specs.Lists.{IsOneOf}
use Rattle.ring_workers.proofs.Groups.{charter_at, name_found}
use Rattle.ring_workers.proofs.GroupSteps.{steps_none}
use Rattle.ring_workers.proofs.nodes.Nodes.turn_to.Goals as goal

pub returns-then-wanted-held-clause-steps : goal.returns-then-wanted-held-clause-steps
returns-then-wanted-held-clause-steps g c = steps_none g.E.RingElection.table c.args.charter.now.value c.args.self.now c.args.self.now _ _ refl refl

pub returns-else-held-wanted-clause-steps : goal.returns-else-held-wanted-clause-steps
returns-else-held-wanted-clause-steps g c = steps_none g.E.RingElection.table c.args.charter.now.value c.args.self.now c.args.self.now _ _ refl refl

pub returns-then-wanted-held-clause-place : goal.returns-then-wanted-held-clause-place
returns-then-wanted-held-clause-place g c =
    let there = sym c.in-Some-get_index.ensures.entry in
    let held_is = c.get-held.ensures.value ∙ c.term.ensures ∙ ap (λ ch. ch.term) (c.deref-2.ensures ∙ c.charter.ensures.value) in
    let wanted_is = c.get-wanted.ensures.value ∙ c.term-2.ensures ∙ ap (λ ch. ch.term) c.deref-3.ensures in
    let found = name_found c.self.inside.groups.entries c.group.result c.in-Some-get_index.field-0-0.now c.in-Some-get_index.seats.now c.in-Some.place (sym c.in-Some.ensures.index) there in
    let named = (c.self.invariant.each (c.in-Some-get_index.field-0-0.now, c.in-Some-get_index.seats.now) (record { place = c.in-Some.place; there = there })).named in
    let older : c.args.charter.now.value.term < c.in-Some-get_index.seats.now.charter.term = omega (arith, c.if-wanted-held.true) in
    record {
      newer = c.in-Some-get_index.seats.now.charter;
      held = subst (λ h. IsOneOf (charters_of h) c.in-Some-get_index.seats.now.charter) c.self.view_is (charter_at c.self.inside.groups.entries c.in-Some.place c.in-Some-get_index.field-0-0.now c.in-Some-get_index.seats.now there);
      group = named ∙ found ∙ c.group.ensures ∙ ap (λ ch. ch.group) c.deref.ensures;
      term = older;
    }

pub replace-requires : goal.replace-requires
replace-requires g c =
    let there = sym c.in-Some-get_index.ensures.entry in
    let held_is = c.get-held.ensures.value ∙ c.term.ensures ∙ ap (λ ch. ch.term) (c.deref-2.ensures ∙ c.charter.ensures.value) in
    let wanted_is = c.get-wanted.ensures.value ∙ c.term-2.ensures ∙ ap (λ ch. ch.term) c.deref-3.ensures in
    let found = name_found c.self.inside.groups.entries c.group.result c.in-Some-get_index.field-0-0.now c.in-Some-get_index.seats.now c.in-Some.place (sym c.in-Some.ensures.index) there in
    let named = (c.self.invariant.each (c.in-Some-get_index.field-0-0.now, c.in-Some-get_index.seats.now) (record { place = c.in-Some.place; there = there })).named in
    let older : c.in-Some-get_index.seats.now.charter.term < c.args.charter.now.value.term = omega (arith, c.if-held-wanted.true) in
    record {
      name = c.in-Some-get_index.field-0-0.now;
      seats = c.in-Some-get_index.seats.now;
      there = ap (λ h. slice_get h.groups c.in-Some.place) (sym c.self.view_is) ∙ there;
      group = named ∙ found ∙ c.group.ensures ∙ ap (λ ch. ch.group) c.deref.ensures;
      term = older;
    }

pub returns-else-held-wanted-clause-place : goal.returns-else-held-wanted-clause-place
returns-else-held-wanted-clause-place g c =
    let there = sym c.in-Some-get_index.ensures.entry in
    let held_is = c.get-held.ensures.value ∙ c.term.ensures ∙ ap (λ ch. ch.term) (c.deref-2.ensures ∙ c.charter.ensures.value) in
    let wanted_is = c.get-wanted.ensures.value ∙ c.term-2.ensures ∙ ap (λ ch. ch.term) c.deref-3.ensures in
    let found = name_found c.self.inside.groups.entries c.group.result c.in-Some-get_index.field-0-0.now c.in-Some-get_index.seats.now c.in-Some.place (sym c.in-Some.ensures.index) there in
    let named = (c.self.invariant.each (c.in-Some-get_index.field-0-0.now, c.in-Some-get_index.seats.now) (record { place = c.in-Some.place; there = there })).named in
    let same : c.in-Some-get_index.seats.now.charter.term ≡ c.args.charter.now.value.term = omega (arith, c.if-held-wanted.false, c.if-wanted-held.false) in
    record {
      name = c.in-Some-get_index.field-0-0.now;
      seats = c.in-Some-get_index.seats.now;
      there = ap (λ h. slice_get h.groups c.in-Some.place) (sym c.self.view_is) ∙ there;
      group = named ∙ found ∙ c.group.ensures ∙ ap (λ ch. ch.group) c.deref.ensures;
      term = same;
    }
