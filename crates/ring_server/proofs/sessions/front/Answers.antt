use Rattle.ring_server.proofs.Crossing.{access_sync}
use Rattle.ring_server.proofs.sessions.front.Goals as goal

-- the table may be shared among threads
pub front-requires-sync-A : goal.front-requires-sync-A
front-requires-sync-A g c κs within = record { shared = (access_sync _ g.T.Tabled c.type_bounds.send-T).shared }
