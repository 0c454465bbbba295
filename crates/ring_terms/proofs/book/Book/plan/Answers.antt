-- The result is a fact about the group that is found.
use Rattle.std.proofs.Common.{◌≡◌, sym}
use Rattle.ring_terms.specs.Charters.{next_charter}
use Rattle.ring_terms.proofs.BookFacts.{found_in, group_shows, missing_in, no_group}
use Rattle.ring_terms.proofs.book.Book.plan.Goals as goal

pub returns-in_default : goal.returns-in_default
returns-in_default g c = no_group c.args.self.now c.args.group _ _ (missing_in c.self.inside.groups.entries c.args.self.now c.self.view_is c.args.group c.in_default.ensures.value)

pub returns : goal.returns
returns g c =
    let found = found_in c.self.inside.groups.entries c.args.self.now c.self.view_is c.args.group c.in-Some.found.now c.in-Some.ensures.value in
    group_shows c.args.self.now c.args.group _ found _ _ _ (λ a v. a.value ≡ next_charter c.args.group v) (rw (c.self.invariant.each c.args.group c.in-Some.found.now (sym c.in-Some.ensures.value)).named at c.plan.ensures)
