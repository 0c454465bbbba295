use denote.Param.{param}
use denote.Param.Send.{param_send}
use mir.Syntax.{named}
use Rattle.ring_server.proofs.Crossing.{handler_send, campaign_send, viewer_send}
use Rattle.ring_server.proofs.running.seat.Goals as goal

-- session handlers may go to threads
pub attend-requires-send-G : goal.attend-requires-send-G
attend-requires-send-G g c κs within =
    let send = param_send 2 _ (handler_send (param 2 g.row.T) g.T.Tabled (record { mir = named 3; lft = κs.1.1.1.0 }) c.type_bounds.send-T) in record { owned = send.owned; leaving = send.leaving }

-- and so may campaign handlers
pub attend-requires-send-H : goal.attend-requires-send-H
attend-requires-send-H g c κs within =
    let send = param_send 3 _ (campaign_send (param 2 g.row.T) g.T.Tabled (record { mir = named 4; lft = κs.1.1.1.1.0 }) c.type_bounds.send-T) in record { owned = send.owned; leaving = send.leaving }

-- and so may viewers
pub attend-requires-send-I : goal.attend-requires-send-I
attend-requires-send-I g c κs within =
    let send = param_send 4 _ (viewer_send (param 2 g.row.T) g.T.Tabled (record { mir = named 5; lft = κs.1.1.1.1.1.0 }) c.type_bounds.send-T) in record { owned = send.owned; leaving = send.leaving }
