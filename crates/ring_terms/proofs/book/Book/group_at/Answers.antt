-- A book shows at a place what its entry there shows.
use Rattle.std.proofs.Common.{sym, ap, ◌∙◌}
use Rattle.std.specs.Prelude.{Some}
use Rattle.ring_terms.proofs.BookFacts.{entry_in}
use Rattle.ring_terms.specs.Books.{group_view}
use Rattle.std.specs.Option.{option_map}
use Rattle.ring_terms.proofs.book.Book.group_at.Goals as goal

pub returns : goal.returns
returns g c =
    ap Some c.new.ensures ∙ ap (option_map (λ e. (e.0, group_view e.1))) c.in-Some.ensures.entry ∙ sym (entry_in c.self.inside.groups.entries c.args.self.now c.self.view_is c.args.place)
