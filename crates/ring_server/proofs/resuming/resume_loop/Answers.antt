use Rattle.ring_server.proofs.Ending.{begun_at, ended_at}
use Rattle.ring_server.proofs.resuming.resume_loop.Goals as goal

pub returns-in-Ok : goal.returns-in-Ok
returns-in-Ok g c = ended_at _ _ _ c.args.listening.now c.wait_for_end.result c.in-Ok.ensures c.wait_for_end.ensures

pub returns : goal.returns
returns g c = begun_at _ _ _ c.args.listening.now _ c.in-Err.ensures
