use denote.Param.{param}
use denote.Param.Send.{param_send}
use mir.Syntax.{named}
use Rattle.ring_server.proofs.Crossing.{handler_send}
use Rattle.ring_server.proofs.listening.serve_all.Goals as goal

-- session handlers may go to threads
pub accept_all-requires-send-G : goal.accept_all-requires-send-G
accept_all-requires-send-G g c κs within =
    let send = param_send 2 _ (handler_send (param 2 g.row.T) g.T.Tabled (record { mir = named 3; lft = κs.1.1.1.0 }) c.type_bounds.send-T) in record { owned = send.owned; leaving = send.leaving }
