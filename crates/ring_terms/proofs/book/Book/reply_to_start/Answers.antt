-- The reply is the number of the term that the book starts.
use Rattle.std.proofs.Common.{refl}
use Rattle.ring_terms.proofs.Objects.{in_group_as}
use Rattle.ring_terms.proofs.book.Book.reply_to_start.Goals as goal

pub returns-in-Ok : goal.returns-in-Ok
returns-in-Ok g c =
    (c.in-Ok.ensures.0, (c.term.result, refl, in_group_as c.args.group c.args.self.now c.start.new.self (λ old new starts. rw (c.term.ensures, c.deref.ensures) starts.starts) c.in-Ok.ensures.1))
