use Rattle.ring_server.proofs.Crossing.{access_sync}
use Rattle.ring_server.proofs.sessions.close.Goals as goal

-- the table may be shared among threads
pub close-requires-sync-A : goal.close-requires-sync-A
close-requires-sync-A g c κs within = record { shared = (access_sync _ g.T.Tabled c.type_bounds.send-T).shared }
