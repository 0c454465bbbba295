use Rattle.ring_recovery.proofs.Restarting.{restarts}
use Rattle.ring_recovery.proofs.restart.restarts_after_first.Goals as goal

pub returns : goal.returns
returns c = restarts c.one_change.ensures.changes c.follows_replays.ensures c.replays_exact.ensures
