use denote.Param.{copied}
use denote.Param.Send.{param_send, param_sync}
use Rattle.ring_etcd.proofs.Crossing.{etcd_send, etcd_sync, medium_send, medium_sync}
use Rattle.ringd.proofs.Crossing.{file_send, file_sync}
use Rattle.ringd.proofs.kept.resume_from.Goals as goal

-- either medium may go to the thread that serves, since the handle may
pub resume_at-requires-send-D : goal.resume_at-requires-send-D
resume_at-requires-send-D g c κs within =
    let send = param_send 1 _ (file_send (copied 0 g.row.R) c.type_bounds.send-R) in record { owned = send.owned; leaving = send.leaving }

pub resume_at-requires-sync-D : goal.resume_at-requires-sync-D
resume_at-requires-sync-D g c κs within =
    let sync = param_sync 1 _ (file_sync (copied 0 g.row.R) c.type_bounds.sync-R) in record { shared = sync.shared }

pub resume_at-ran-requires-send-D : goal.resume_at-ran-requires-send-D
resume_at-ran-requires-send-D g c κs within =
    let send = param_send 1 _ (medium_send _ (record { held = λ a. a }) (etcd_send (copied 0 g.row.R) c.type_bounds.send-R)) in record { owned = send.owned; leaving = send.leaving }

pub resume_at-ran-requires-sync-D : goal.resume_at-ran-requires-sync-D
resume_at-ran-requires-sync-D g c κs within =
    let sync = param_sync 1 _ (medium_sync _ (record { held = λ a. a }) (etcd_sync (copied 0 g.row.R) c.type_bounds.sync-R)) in record { shared = sync.shared }
