use Rattle.std.proofs.Common.{rules}
use Rattle.ring_campaign.proofs.candidate.Candidate.part.Goals as goal

pub returns-clause-leaves : goal.returns-clause-leaves
returns-clause-leaves g c = search rules
