use Rattle.ring_http.proofs.Questions.{asks_names}
use Rattle.ring_http.proofs.Replies.{names_told}
use Rattle.ring_http.proofs.asking.Asker.names.Goals as goal

pub names_in-requires : goal.names_in-requires
names_in-requires g c = names_told _ c.in_ok-reply.ensures.step

pub returns-clause-asks : goal.returns-clause-asks
returns-clause-asks g c = asks_names _ _ _ _ _ c.in_ok-reply.ensures.ok c.names_in.ensures
