-- The world of the new term is put at its group's place.
use Rattle.std.proofs.Common.{rules, ◌≡◌, ℕ, List, None, refl, ◌∙◌, sym, ap, subst}
use Rattle.ring_node.specs.declared.charter.Charter.{Charter}
use Rattle.ring_terms.specs.Charters.{next_charter}
use Rattle.ring_terms.specs.Commands.{in_group, start_refusal, StartsWith}
use Rattle.ring_terms.specs.Object.{InGroup, Object, OfGroup, names}
use Rattle.ring_mux.specs.Views.{placed}
use Rattle.ring_mux.proofs.Holding.{begins}
use Rattle.ring_terms.proofs.Objects.{in_group_as}
use Rattle.ring_mux.proofs.HoldingSteps.{where_err, where_not_err}
use Rattle.ring_mux.proofs.Places.{at_place, growth_seen, kept_grown, kept_starts, names_kept, none_found, place_few, put_seen}
use Rattle.ring_mux.proofs.mux.Mux.start.Goals as goal

-- the group that a charter was planned for may start the charter's term
plan_allowed : {E : Type 0} (name : List ℕ) (object : Object E) (planned : Charter E) → in_group name start_refusal object ≡ None → OfGroup name (λ g. planned ≡ next_charter name g) object →
    OfGroup planned.group (λ g. (start_refusal g ≡ None) × (planned ≡ next_charter planned.group g)) object
plan_allowed name object planned none of =
    let named : planned.group ≡ name = ap (λ ch. ch.group) of.says in
    subst (λ n. OfGroup n (λ g. (start_refusal g ≡ None) × (planned ≡ next_charter n g)) object) (sym named)
    (record { group = of.group; found = of.found; says = (rw of.found at none, of.says) })

-- and it is the group of its name that starts it
starts_planned : {E : Type 0} (name : List ℕ) (object after : Object E) (planned : Charter E) → OfGroup name (λ g. planned ≡ next_charter name g) object →
    InGroup planned.group (StartsWith planned.group planned) object after → InGroup name (StartsWith name planned) object after
starts_planned name object after planned of starts = subst (λ n. InGroup n (StartsWith n planned) object after) (ap (λ ch. ch.group) of.says) starts

pub returns-in_default-clause-object : goal.returns-in_default-clause-object
returns-in_default-clause-object g c =
    let none = none_found g.E.RingElection.winner c.args.group c.self.inside.book c.place.ensures.kept (sym c.place.ensures.value ∙ c.in_default.is) _ refl in
    rw (← c.self.view_is) (refl, rw none refl)

pub make_place-requires : goal.make_place-requires
make_place-requires g c = place_few g.E.RingElection.winner c.args.group c.in-Some.place c.self.inside.book c.place.ensures.kept (sym c.in-Some.ensures.value)

pub invariant_of-self : goal.invariant_of-self
invariant_of-self g c =
    let same = where_err c.make_place.result (sym c.is_err.ensures.value ∙ c.if-is_err.true) c.make_place.ensures.err in
    rw same c.self.invariant

pub returns-then-is_err-clause-worlds : goal.returns-then-is_err-clause-worlds
returns-then-is_err-clause-worlds g c =
    let same = where_err c.make_place.result (sym c.is_err.ensures.value ∙ c.if-is_err.true) c.make_place.ensures.err in
    rw (same, ← c.self.view_is) refl

pub index_mut-requires : goal.index_mut-requires
index_mut-requires g c =
    let growth = where_not_err c.make_place.result (sym c.is_err.ensures.value ∙ c.if-is_err.false) c.make_place.ensures.grown in
    let inside = growth.inside in
    search (rules, inside)

pub start_planned-requires : goal.start_planned-requires
start_planned-requires g c = record { planned = plan_allowed c.args.group c.self.inside.book c.in-Ok.charter.value c.in-Ok.ensures.0 c.in-Ok.ensures.1 }

pub invariant_of-self-in_default-start_planned : goal.invariant_of-self-in_default-start_planned
invariant_of-self-in_default-start_planned g c =
    let at = at_place g.E.RingElection.winner c.args.group c.in-Some.place c.self.inside.book (sym c.in-Some.ensures.value) c.place.ensures.kept in
    let growth = where_not_err c.make_place.result (sym c.is_err.ensures.value ∙ c.if-is_err.false) c.make_place.ensures.grown in
    rw c.in_default-start_planned.ensures.err
    (kept_grown g.E.RingElection.table g.E.RingElection.fits g.E.RingElection.winner c.self.inside.book c.self.inside.worlds.items c.make_place.new.list.items c.self.invariant c.args.group c.in-Some.place at growth)

pub returns-in_default-start_planned-clause-worlds : goal.returns-in_default-start_planned-clause-worlds
returns-in_default-start_planned-clause-worlds g c =
    let growth = where_not_err c.make_place.result (sym c.is_err.ensures.value ∙ c.if-is_err.false) c.make_place.ensures.grown in
    rw (c.in_default-start_planned.ensures.err, ← c.self.view_is) (growth_seen c.in-Some.place c.self.inside.worlds.items c.make_place.new.list.items growth (names c.self.inside.book))

pub invariant_of-self-2 : goal.invariant_of-self-2
invariant_of-self-2 g c =
    let at = at_place g.E.RingElection.winner c.args.group c.in-Some.place c.self.inside.book (sym c.in-Some.ensures.value) c.place.ensures.kept in
    let growth = where_not_err c.make_place.result (sym c.is_err.ensures.value ∙ c.if-is_err.false) c.make_place.ensures.grown in
    let planned = c.in-Ok.charter.value in
    let starts = starts_planned c.args.group c.self.inside.book c.start_planned.new.self planned c.in-Ok.ensures.1 c.in-Ok-start_planned.ensures.started in
    kept_starts g.E.RingElection.table g.E.RingElection.fits g.E.RingElection.winner c.self.inside.book c.self.inside.worlds.items c.make_place.new.list.items c.self.invariant c.args.group c.in-Some.place at growth
    planned planned c.in-Ok-begin.world c.start_planned.new.self c.in-Ok.ensures.1 starts (rw c.in-Ok-try_clone.ensures at c.in-Ok-begin.ensures.started) c.in-Ok-begin.ensures.sound

pub returns-clause-object : goal.returns-clause-object
returns-clause-object g c =
    let starts = starts_planned c.args.group c.self.inside.book c.start_planned.new.self c.in-Ok.charter.value c.in-Ok.ensures.1 c.in-Ok-start_planned.ensures.started in
    rw (← c.self.view_is) (c.in-Ok.ensures.0, (c.term-term.result, refl, in_group_as c.args.group c.self.inside.book c.start_planned.new.self (λ old new does. rw (c.term-term.ensures, c.deref.ensures) does.starts) starts))

pub returns-clause-worlds : goal.returns-clause-worlds
returns-clause-worlds g c =
    let at = at_place g.E.RingElection.winner c.args.group c.in-Some.place c.self.inside.book (sym c.in-Some.ensures.value) c.place.ensures.kept in
    let growth = where_not_err c.make_place.result (sym c.is_err.ensures.value ∙ c.if-is_err.false) c.make_place.ensures.grown in
    let planned = c.in-Ok.charter.value in
    let starts = starts_planned c.args.group c.self.inside.book c.start_planned.new.self planned c.in-Ok.ensures.1 c.in-Ok-start_planned.ensures.started in
    let same = names_kept c.args.group _ c.self.inside.book c.start_planned.new.self starts in
    rw (← c.self.view_is, same)
    (begins c.self.inside.book (placed (names c.self.inside.book) c.self.inside.worlds.items) c.args.group planned planned c.in-Ok-begin.world c.start_planned.new.self _
    c.in-Ok.ensures.1 starts (rw c.in-Ok-try_clone.ensures at c.in-Ok-begin.ensures.started) (put_seen c.in-Some.place c.self.inside.worlds.items c.make_place.new.list.items growth (names c.self.inside.book) c.args.group c.in-Ok-begin.world at))

pub returns-in_default-clause-worlds : goal.returns-in_default-clause-worlds
returns-in_default-clause-worlds g c = refl

pub returns-in-Err-clause-object : goal.returns-in-Err-clause-object
returns-in-Err-clause-object g c = rw (← c.self.view_is) (refl, c.in-Err.ensures)

pub returns-in-Err-clause-worlds : goal.returns-in-Err-clause-worlds
returns-in-Err-clause-worlds g c = refl

pub returns-in_default-try_clone-clause-object : goal.returns-in_default-try_clone-clause-object
returns-in_default-try_clone-clause-object g c = rw (← c.self.view_is) (refl, rw c.in-Ok.ensures.0 (refl, refl))

pub returns-in_default-try_clone-clause-worlds : goal.returns-in_default-try_clone-clause-worlds
returns-in_default-try_clone-clause-worlds g c = refl

pub returns-in_default-begin-clause-object : goal.returns-in_default-begin-clause-object
returns-in_default-begin-clause-object g c = rw (← c.self.view_is) (refl, rw c.in-Ok.ensures.0 (refl, refl))

pub returns-in_default-begin-clause-worlds : goal.returns-in_default-begin-clause-worlds
returns-in_default-begin-clause-worlds g c = refl

pub returns-then-is_err-clause-object : goal.returns-then-is_err-clause-object
returns-then-is_err-clause-object g c = rw (← c.self.view_is) (refl, rw c.in-Ok.ensures.0 (refl, refl))

pub returns-in_default-start_planned-clause-object : goal.returns-in_default-start_planned-clause-object
returns-in_default-start_planned-clause-object g c = rw (c.in_default-start_planned.ensures.err, ← c.self.view_is) (refl, rw c.in-Ok.ensures.0 (refl, refl))
