-- The book's answer to a command is the step of its reply.
use Rattle.ring_terms.proofs.Steps.{done_replies, tells_reply}
use Rattle.ring_terms.proofs.book.Book.perform.Goals as goal

pub returns-in-Create : goal.returns-in-Create
returns-in-Create g c = rw (c.in-Create.is, c.done.ensures) (done_replies _ _ _ c.create.result _ _ c.create.ensures)

pub returns-in-Join : goal.returns-in-Join
returns-in-Join g c = rw (c.in-Join.is, c.done-in-Join.ensures) (done_replies _ _ _ c.join.result _ _ c.join.ensures)

pub returns-in-Leave : goal.returns-in-Leave
returns-in-Leave g c = rw (c.in-Leave.is, c.done-in-Leave.ensures) (done_replies _ _ _ c.leave.result _ _ c.leave.ensures)

pub returns-in-Who : goal.returns-in-Who
returns-in-Who g c = rw (c.in-Who.is, c.told.ensures) (tells_reply _ c.in-Who.group c.in-Who.node c.args.self.now c.who.result c.who.ensures)
