-- The names that a book shows are the keys of its map.
use Rattle.std.proofs.Common.{◌≡◌, refl, sym, ◌∙◌, rules}
use Rattle.std.specs.Map.{keys_of}
use Rattle.ring_terms.proofs.BookFacts.{names_in}
use Rattle.ring_terms.proofs.book.Book.groups.Goals as goal

pub returns : goal.returns
returns g c =
    let keys : c.in-Ok.names.items ≡ keys_of c.self.inside.groups.entries = search rules in
    (refl, c.new.ensures ∙ keys ∙ sym (names_in c.self.inside.groups.entries c.args.self.now c.self.view_is))
