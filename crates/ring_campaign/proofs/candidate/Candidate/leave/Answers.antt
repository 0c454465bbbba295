use Rattle.std.proofs.lemmas.Grind.{common_steps}
use Rattle.std.proofs.Common.{arith}
use Rattle.ring_campaign.proofs.Gone.{leaves_alone}
use Rattle.ring_campaign.proofs.candidate.Candidate.leave.Goals as goal

pub returns-then-may_lead-clause-leaves : goal.returns-then-may_lead-clause-leaves
returns-then-may_lead-clause-leaves g c = grind (arith, common_steps)

pub returns-clause-leaves : goal.returns-clause-leaves
returns-clause-leaves g c = leaves_alone _ _ _ _ _ _ _ _ c.insist-left.ensures.entry c.insist-told.ensures.entry (c.if-may_lead.ensures)
