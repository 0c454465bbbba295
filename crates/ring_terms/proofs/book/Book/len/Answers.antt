-- The facts that the type keeps hold of the view of the book.
use Rattle.ring_terms.proofs.BookFacts.{object_kept}
use Rattle.ring_terms.proofs.book.Book.len.Goals as goal

pub returns-clause-kept : goal.returns-clause-kept
returns-clause-kept g c =
    object_kept g.E.RingElection.winner c.self.inside.groups.entries c.args.self.now c.self.view_is c.self.invariant c.len.ensures.unique
