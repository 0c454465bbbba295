-- Informing a member changes the group at the place of its name.
use Rattle.std.proofs.Common.{◌≡◌, sym, subst, ◌∙◌}
use Rattle.std.specs.Prelude.{Some}
use Rattle.std.specs.Str.{bytes_eq}
use Rattle.ring_terms.specs.Books.{group_view}
use Rattle.ring_terms.specs.Charters.{running_charter}
use Rattle.ring_terms.specs.private.Books.{IsGroupOf}
use Rattle.ring_terms.proofs.BookFacts.{at_place, found_in, group_notes, kept_after_write, missing_in, nothing_runs, place_in}
use Rattle.ring_terms.proofs.Entries.{set_value-placed}
use Rattle.ring_terms.proofs.book.Book.inform.Goals as goal

pub unreachable-requires : goal.unreachable-requires
unreachable-requires g c =
    let name = c.args.charter.now.group in
    let none = c.in_default.ensures.value ∙ sym (at_place c.self.inside.groups.entries c.args.self.now c.self.view_is name c.args.place c.requires.placed) in
    nothing_runs name c.args.self.now c.args.charter.now (missing_in c.self.inside.groups.entries c.args.self.now c.self.view_is name none) c.requires.running

pub inform-requires-clause-kept : goal.inform-requires-clause-kept
inform-requires-clause-kept g c =
    let name = c.args.charter.now.group in
    let at = c.in-Some.ensures.value ∙ sym (at_place c.self.inside.groups.entries c.args.self.now c.self.view_is name c.args.place c.requires.placed) in
    let of = c.self.invariant.each name c.in-Some.found.now (sym at) in
    subst (λ n. IsGroupOf g.E.RingElection.winner n c.in-Some.found.now) (sym of.named) of

pub inform-requires-clause-running : goal.inform-requires-clause-running
inform-requires-clause-running g c =
    let name = c.args.charter.now.group in
    let at = c.in-Some.ensures.value ∙ sym (at_place c.self.inside.groups.entries c.args.self.now c.self.view_is name c.args.place c.requires.placed) in
    let own = (c.self.invariant.each name c.in-Some.found.now (sym at)).named in
    let found = found_in c.self.inside.groups.entries c.args.self.now c.self.view_is name c.in-Some.found.now at in
    subst (λ n. running_charter n (group_view c.in-Some.found.now) ≡ Some c.args.charter.now) (sym own) (rw found at c.requires.running)

pub invariant_of-self : goal.invariant_of-self
invariant_of-self g c =
    let name = c.args.charter.now.group in
    let at = c.in-Some.ensures.value ∙ sym (at_place c.self.inside.groups.entries c.args.self.now c.self.view_is name c.args.place c.requires.placed) in
    let own = (c.self.invariant.each name c.in-Some.found.now (sym at)).named in
    let placed = place_in c.self.inside.groups.entries c.args.self.now c.self.view_is name c.args.place c.requires.placed in
    rw (set_value-placed (bytes_eq name) name c.self.inside.groups.entries c.args.place c.inform.new.self placed)
    (kept_after_write g.E.RingElection.winner c.self.inside.groups.entries c.self.invariant name c.inform.new.self (rw own at c.inform.ensures.kept) c.in-Some.found.now at)

pub returns : goal.returns
returns g c =
    let name = c.args.charter.now.group in
    let at = c.in-Some.ensures.value ∙ sym (at_place c.self.inside.groups.entries c.args.self.now c.self.view_is name c.args.place c.requires.placed) in
    let own = (c.self.invariant.each name c.in-Some.found.now (sym at)).named in
    let placed = place_in c.self.inside.groups.entries c.args.self.now c.self.view_is name c.args.place c.requires.placed in
    group_notes c.self.inside.groups.entries c.args.self.now c.self.view_is name c.in-Some.found.now c.inform.new.self at _ (set_value-placed (bytes_eq name) name c.self.inside.groups.entries c.args.place c.inform.new.self placed)
    g.E.RingElection.is_greatest _ c.inform.result (rw own at c.inform.ensures.notes)
