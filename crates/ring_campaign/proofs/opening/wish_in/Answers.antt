use Rattle.ring_events.specs.declared.event.Command.TheVariants.{Join}
use Rattle.ring_campaign.proofs.opening.wish_in.Goals as goal

-- a line that spells no command spells no join
pub returns-in-None : goal.returns-in-None
returns-in-None c = λ group node spelled. c.in-None.ensures.none (Join group node) spelled
