-- What is written for the question of a line is the access's answer to the command that it spells.
use Rattle.std.proofs.Common.{refl, subst}
use Rattle.ring_service.specs.private.Asking.{AsksCommand}
use Rattle.ring_service.proofs.session.Session.answer.Goals as goal

-- the place is below the bound of the access
pub write-requires : goal.write-requires
write-requires g c = (g.A.Access.most, c.answer.ensures.place, c.requires.counts)

pub returns-in-Some-clause-answer : goal.returns-in-Some-clause-answer
returns-in-Some-clause-answer g c = λ line asks.
    c.write.ensures.command _ _ line c.in-Some.command _ _ c.answer.ensures.place (subst (AsksCommand line) c.in-Some.is asks) (rw c.lead.ensures at c.answer.ensures.entry)

pub returns-in-None-clause-answer : goal.returns-in-None-clause-answer
returns-in-None-clause-answer g c = λ line asks. c.write-in-None.ensures.unread refl _ _ line _ (subst (AsksCommand line) c.in-None.is asks)
