-- Turns whose reply was not written, and one after a refused start.
use Rattle.ring_campaign.proofs.Told.{turns_failed, turns_over}
use Rattle.ring_campaign.proofs.candidate.Candidate.turn.Goals as goal

pub returns-in-Err-clause-turns : goal.returns-in-Err-clause-turns
returns-in-Err-clause-turns g c = turns_failed _ _ _ _ _ _ _ _ _ _ _ _ _ _ c.in-Tell.ensures.looks c.in-Err.ensures.entries c.in-Err.ensures.err

pub returns-in-Ok-tell-clause-turns : goal.returns-in-Ok-tell-clause-turns
returns-in-Ok-tell-clause-turns g c = turns_over _ _ _ _ _ _ _ _ _ _ _ _ _ _ c.in-Last.ensures.looks c.in-Ok-tell.ensures.entries c.in-Ok-tell.ensures.ok

pub returns-in-Err-tell-clause-turns : goal.returns-in-Err-tell-clause-turns
returns-in-Err-tell-clause-turns g c = turns_failed _ _ _ _ _ _ _ _ _ _ _ _ _ _ c.in-Last.ensures.looks c.in-Err-tell.ensures.entries c.in-Err-tell.ensures.err
