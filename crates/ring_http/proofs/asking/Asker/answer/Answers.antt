-- Whatever is answered, questions alone were asked, and the last place that was told did not fall.
use Rattle.ring_http.proofs.Asked.{questions_of, rises_of}
use Rattle.ring_http.proofs.asking.Asker.answer.Goals as goal

pub returns-clause-questions : goal.returns-clause-questions
returns-clause-questions g c = questions_of c.reply.result _ _ _ _ g.A.Access.mine _ _ _ _ _ c.reply.ensures.ok c.reply.ensures.err

pub returns-clause-rises : goal.returns-clause-rises
returns-clause-rises g c = rises_of c.reply.result _ _ _ _ g.A.Access.mine _ _ _ _ _ c.reply.ensures.ok c.reply.ensures.err
