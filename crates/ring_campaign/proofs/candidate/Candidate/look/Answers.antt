-- The member's own question, after the search for a leader.
use Rattle.ring_campaign.proofs.Looking.{looks_followed, looks_refused, looks_unknown, looks_up}
use Rattle.ring_campaign.proofs.candidate.Candidate.look.Goals as goal

pub returns-then-follows-clause-looks : goal.returns-then-follows-clause-looks
returns-then-follows-clause-looks g c = rw c.if-follows.true (looks_up _ _ _ _ _ _ c.look_up.ensures.asks)

pub returns-in-Unknown-clause-looks : goal.returns-in-Unknown-clause-looks
returns-in-Unknown-clause-looks g c = rw c.if-follows.false (looks_unknown _ _ _ _ _ c.in-Unknown.ensures.finds)

pub returns-in-Follows-clause-looks : goal.returns-in-Follows-clause-looks
returns-in-Follows-clause-looks g c = rw c.if-follows.false (looks_followed _ _ _ _ _ _ _ c.in-Follows.ensures.finds c.look_up-in-Follows.ensures.asks)

pub returns-in-Refused-clause-looks : goal.returns-in-Refused-clause-looks
returns-in-Refused-clause-looks g c = rw c.if-follows.false (looks_refused _ _ _ _ _ _ c.in-Refused.ensures.finds)
