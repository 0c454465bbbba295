-- The command changes the group that is found.
use Rattle.std.proofs.Common.{ap, ◌∙◌}
use Rattle.ring_terms.specs.Books.{object_view}
use Rattle.ring_terms.specs.Commands.{Joins}
use Rattle.ring_terms.proofs.BookFacts.{group_answers, missing_in, no_group}
use Rattle.ring_terms.proofs.book.Book.join.Goals as goal

pub returns-in_default : goal.returns-in_default
returns-in_default g c = (
  ap (λ m. object_view {E = g.row.E.Denot} m.entries) c.get_mut.follows.holds-at-none ∙ c.self.view_is,
  no_group c.args.self.now c.args.group _ _ (missing_in c.self.inside.groups.entries c.args.self.now c.self.view_is c.args.group c.in_default.ensures.value),
)

pub returns : goal.returns
returns g c =
    group_answers c.self.inside.groups.entries c.args.self.now c.self.view_is c.args.group c.in-Some.found.now c.join.new.self c.in-Some.ensures.value _ (c.get_mut.follows.holds c.join.new.self).0
    _ _ c.join.result (λ _ old new. Joins c.args.node old new) c.join.ensures.answer
