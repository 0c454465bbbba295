-- The term of a planned charter changes the group of that charter, which is there.
use Rattle.std.proofs.Common.{sym, ap, subst, ◌∙◌}
use Rattle.std.specs.Prelude.{OnOk}
use Rattle.ring_terms.specs.Books.{object_view}
use Rattle.ring_terms.specs.Commands.{StartsWith}
use Rattle.ring_terms.specs.Object.{InGroup}
use Rattle.ring_terms.proofs.BookFacts.{group_done, group_stays, of_shown, of_there}
use Rattle.ring_terms.proofs.book.Book.start_planned.Goals as goal

pub unreachable-requires : goal.unreachable-requires
unreachable-requires g c =
    let named = c.group.ensures ∙ ap (λ ch. ch.group) c.deref.ensures in
    of_there c.self.inside.groups.entries c.args.self.now c.self.view_is c.args.charter.value.group (rw named at c.in_default.ensures.value) _ c.requires.planned

pub start_planned-requires-clause-allowed : goal.start_planned-requires-clause-allowed
start_planned-requires-clause-allowed g c =
    let named = c.group.ensures ∙ ap (λ ch. ch.group) c.deref.ensures in
    (of_shown c.self.inside.groups.entries c.args.self.now c.self.view_is c.args.charter.value.group c.in-Some.found.now (rw named at c.in-Some.ensures.value) _ c.requires.planned).0

pub start_planned-requires-clause-planned : goal.start_planned-requires-clause-planned
start_planned-requires-clause-planned g c =
    let named = c.group.ensures ∙ ap (λ ch. ch.group) c.deref.ensures in
    let own = (c.self.invariant.each c.group.result c.in-Some.found.now (sym c.in-Some.ensures.value)).named in
    rw (own, named)
    (of_shown c.self.inside.groups.entries c.args.self.now c.self.view_is c.args.charter.value.group c.in-Some.found.now (rw named at c.in-Some.ensures.value) _ c.requires.planned).1

pub returns-clause-started : goal.returns-clause-started
returns-clause-started g c =
    let named = c.group.ensures ∙ ap (λ ch. ch.group) c.deref.ensures in
    let own = (c.self.invariant.each c.group.result c.in-Some.found.now (sym c.in-Some.ensures.value)).named in
    let done = group_done c.self.inside.groups.entries c.args.self.now c.self.view_is c.group.result c.in-Some.found.now c.start_planned.new.self c.in-Some.ensures.value _ (c.get_mut.follows.holds c.start_planned.new.self).0
    c.start_planned.result (StartsWith c.group.result c.args.charter.value) (rw own at c.start_planned.ensures.started) in
    subst (λ n. OnOk c.start_planned.result (InGroup n (StartsWith n c.args.charter.value) c.args.self.now (object_view {E = g.row.E.Denot} (c.get_mut.follows.lender c.start_planned.new.self).entries))) named done

pub returns-clause-err : goal.returns-clause-err
returns-clause-err g c =
    group_stays c.self.inside.groups.entries c.args.self.now c.self.view_is c.group.result c.in-Some.found.now c.start_planned.new.self c.in-Some.ensures.value _ (c.get_mut.follows.holds c.start_planned.new.self).0
    c.start_planned.result c.start_planned.ensures.err
