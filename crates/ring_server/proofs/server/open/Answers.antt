use Rattle.ring_server.proofs.Crossing.{access_sync}
use Rattle.ring_server.proofs.server.open.Goals as goal

-- the table may be shared among threads
pub resume-requires-sync-A : goal.resume-requires-sync-A
resume-requires-sync-A g c κs within = record { shared = (access_sync _ g.T.Tabled c.type_bounds.send-T).shared }
