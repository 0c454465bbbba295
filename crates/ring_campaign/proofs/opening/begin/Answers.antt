-- A first line that spells no join is refused.
use Rattle.std.proofs.Common.{refl, rules}
use Rattle.ring_campaign.proofs.opening.begin.Goals as goal

pub returns-in-NoJoin-clause-campaigns : goal.returns-in-NoJoin-clause-campaigns
returns-in-NoJoin-clause-campaigns g c =
    let asked = c.in-NoJoin.ensures in record { same = refl; first = asked.0; read = asked.2; no_join = asked.1; told = c.refuse.ensures }

pub returns-clause-campaigns : goal.returns-clause-campaigns
returns-clause-campaigns g c = search rules
