-- The report changes the group that is found.
use Rattle.std.proofs.Common.{◌≡◌, sym, ap, subst, ◌∙◌}
use Rattle.std.specs.Prelude.{None}
use Rattle.ring_terms.specs.Books.{object_view}
use Rattle.ring_terms.specs.Object.{find}
use Rattle.ring_terms.specs.Notes.{NotesOf}
use Rattle.ring_terms.proofs.BookFacts.{group_notes, missing_in, nothing_runs}
use Rattle.ring_terms.proofs.book.Book.note.Goals as goal

pub returns-in_default : goal.returns-in_default
returns-in_default g c =
    let named = c.group.ensures ∙ ap (λ ch. ch.group) (c.deref.ensures ∙ c.charter.ensures) in
    let missing = missing_in c.self.inside.groups.entries c.args.self.now c.self.view_is c.group.result c.in_default.ensures.value in (
      nothing_runs c.args.report.now.charter.group c.args.self.now c.args.report.now.charter (subst (λ n. find n c.args.self.now ≡ None) named missing),
      ap (λ m. object_view {E = g.row.E.Denot} m.entries) c.get_mut.follows.holds-at-none ∙ c.self.view_is,
    )

pub returns : goal.returns
returns g c =
    let named = c.group.ensures ∙ ap (λ ch. ch.group) (c.deref.ensures ∙ c.charter.ensures) in
    let own = (c.self.invariant.each c.group.result c.in-Some.found.now (sym c.in-Some.ensures.value)).named in
    let notes = group_notes c.self.inside.groups.entries c.args.self.now c.self.view_is c.group.result c.in-Some.found.now c.note.new.self c.in-Some.ensures.value _ (c.get_mut.follows.holds c.note.new.self).0
    g.E.RingElection.is_greatest c.args.report.now c.note.result (rw own at c.note.ensures.notes) in
    subst (λ n. NotesOf g.E.RingElection.is_greatest n c.args.report.now c.args.self.now c.note.result (object_view {E = g.row.E.Denot} (c.get_mut.follows.lender c.note.new.self).entries)) named notes
