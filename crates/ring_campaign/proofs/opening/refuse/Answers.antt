-- The refusal was written, or a prefix of it.
use Rattle.ring_campaign.proofs.Told.{given_either}
use Rattle.ring_campaign.proofs.opening.refuse.Goals as goal

pub returns : goal.returns
returns g c = rw (← c.spell.ensures, ← c.deref.ensures.value) (given_either _ _ _ _ c.put.result c.put.ensures.ok c.put.ensures.err)
