use denote.Param.Send.{param_send, param_sync}
use Rattle.ring_server.proofs.MediumCrossing.{metered_send, metered_sync}
use Rattle.ringd.proofs.Telling.{all_kept}
use Rattle.ringd.proofs.kept.resume_at.Goals as goal

-- the counted medium may go to the thread that serves, since the medium may
pub resume_loop-requires-send-D : goal.resume_loop-requires-send-D
resume_loop-requires-send-D g c κs within =
    let send = param_send 2 _ (metered_send _ _ g.D.Medium c.type_bounds.send-D c.type_bounds.send-R) in record { owned = send.owned; leaving = send.leaving }

pub resume_loop-requires-sync-D : goal.resume_loop-requires-sync-D
resume_loop-requires-sync-D g c κs within =
    let sync = param_sync 2 _ (metered_sync _ _ g.D.Medium c.type_bounds.sync-D c.type_bounds.sync-R) in record { shared = sync.shared }

pub returns-in-Ok : goal.returns-in-Ok
returns-in-Ok g c = all_kept _ _ c.args.first.now _ c.resume_loop.result c.resume_loop.ensures
