use Rattle.ring_http.proofs.Questions.{asks_terms}
use Rattle.ring_http.proofs.Replies.{terms_told}
use Rattle.ring_http.proofs.asking.Asker.terms.Goals as goal

pub terms_in-requires : goal.terms_in-requires
terms_in-requires g c = terms_told _ _ c.in_ok-reply.ensures.step

pub returns-clause-asks : goal.returns-clause-asks
returns-clause-asks g c = asks_terms _ _ _ _ _ _ c.in_ok-reply.ensures.ok c.terms_in.ensures
