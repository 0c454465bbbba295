use Rattle.ring_http.proofs.Questions.{asks_members}
use Rattle.ring_http.proofs.Replies.{members_told}
use Rattle.ring_http.proofs.asking.Asker.members.Goals as goal

pub members_in-requires : goal.members_in-requires
members_in-requires g c = members_told _ _ c.in_ok-reply.ensures.step

pub returns-clause-asks : goal.returns-clause-asks
returns-clause-asks g c = asks_members _ _ _ _ _ _ c.in_ok-reply.ensures.ok c.members_in.ensures
