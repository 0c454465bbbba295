use Rattle.std.proofs.Common.{rules}
use Rattle.ring_campaign.proofs.clearing.clear.Goals as goal

pub returns-clause-settled : goal.returns-clause-settled
returns-clause-settled g c = search rules
