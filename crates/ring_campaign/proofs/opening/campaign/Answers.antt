-- The entries of the seat follow from all that was read and written.
use Rattle.ring_campaign.proofs.Told.{campaign_gains}
use Rattle.ring_campaign.proofs.opening.campaign.Goals as goal

pub returns-clause-gained : goal.returns-clause-gained
returns-clause-gained g c = campaign_gains _ _ _ _ _ _ _ _ _ _ c.begin.ensures.campaigns
