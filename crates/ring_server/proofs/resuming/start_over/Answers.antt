use denote.Param.{param}
use denote.Param.Send.{param_send, param_sync}
use Rattle.ring_recovery.proofs.Crossing.{written_table_send}
use Rattle.ring_server.proofs.Lasting.{written_table_sync}
use Rattle.ring_server.proofs.resuming.start_over.Goals as goal

-- the table may go to the thread that serves
pub start-requires-send-T : goal.start-requires-send-T
start-requires-send-T g c κs within =
    let send = param_send 2 _ (written_table_send (param 2 g.row.D) g.D.Medium c.type_bounds.send-D) in record { owned = send.owned; leaving = send.leaving }

pub start-requires-sync-T : goal.start-requires-sync-T
start-requires-sync-T g c κs within =
    let sync = param_sync 2 _ (written_table_sync (param 2 g.row.D) g.D.Medium c.type_bounds.sync-D) in record { shared = sync.shared }
