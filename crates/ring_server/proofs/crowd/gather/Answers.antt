-- The seats of each part are of the lock.
use Rattle.ring_server.proofs.crowd.gather.Goals as goal

pub session_handlers-requires-clause-seats : goal.session_handlers-requires-clause-seats
session_handlers-requires-clause-seats g c = c.in-Ok-part.ensures.ours _ (c.in-Ok.ensures.ours _ c.requires.seats)

pub campaign_handlers-requires : goal.campaign_handlers-requires
campaign_handlers-requires g c = c.in-Ok-part.ensures.theirs _ (c.in-Ok.ensures.ours _ c.requires.seats)

pub viewers-requires-clause-seats : goal.viewers-requires-clause-seats
viewers-requires-clause-seats g c = c.in-Ok.ensures.theirs _ c.requires.seats
