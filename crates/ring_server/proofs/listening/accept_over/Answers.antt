use Rattle.std.proofs.Common.{◌≡◌, ◌∙◌}
use Rattle.ring_accept.specs.Telling.{closed_line}
use Rattle.ring_server.proofs.Telling.{both_at, both_told}
use Rattle.ring_server.proofs.listening.accept_over.Goals as goal

pub returns-in-Ok : goal.returns-in-Ok
returns-in-Ok g c =
    let last : c.as_str.result.now ≡ closed_line c.args.connections = c.as_str.ensures.value ∙ c.in_ok-closed.ensures in
    both_told _ _ _ c.args.listening.now (closed_line c.args.connections) _ c.tell.result c.in-Ok.ensures.1 (rw last at c.tell.ensures)

pub returns : goal.returns
returns g c = both_at _ _ _ c.args.listening.now (closed_line c.args.connections) _ c.in-Err.ensures
