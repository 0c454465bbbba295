-- The names that a book shows are the keys of its map.
use Rattle.std.proofs.Common.{sym, ap, ◌∙◌}
use Rattle.std.specs.Prelude.{position}
use Rattle.std.specs.Str.{bytes_eq}
use Rattle.ring_terms.proofs.BookFacts.{names_in, object_kept}
use Rattle.ring_terms.proofs.book.Book.place.Goals as goal

pub returns-clause-value : goal.returns-clause-value
returns-clause-value g c =
    c.get_index_of.ensures.index ∙ ap (position (bytes_eq c.args.group)) (sym (names_in c.self.inside.groups.entries c.args.self.now c.self.view_is))

pub returns-clause-kept : goal.returns-clause-kept
returns-clause-kept g c =
    object_kept g.E.RingElection.winner c.self.inside.groups.entries c.args.self.now c.self.view_is c.self.invariant c.get_index_of.ensures.unique
