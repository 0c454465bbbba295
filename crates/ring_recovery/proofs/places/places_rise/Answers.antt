use Rattle.ring_recovery.proofs.Rising.{places_rise}
use Rattle.ring_recovery.proofs.places.places_rise.Goals as goal

pub returns : goal.returns
returns c = places_rise c.restarts_after_first.ensures
