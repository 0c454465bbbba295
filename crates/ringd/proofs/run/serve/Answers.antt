use Rattle.std.proofs.Common.{◌≡◌, ◌∙◌}
use Rattle.ring_accept.specs.Telling.{closed_line}
use Rattle.ringd.proofs.Telling.{served_told}
use Rattle.ringd.specs.Run.{first_line}
use Rattle.ringd.proofs.run.serve.Goals as goal

pub returns : goal.returns
returns g c =
    let port = c.in_ok-config.config.port in
    let is : c.as_str-first.result.now ≡ first_line port c.args.socket = c.as_str-first.ensures.value ∙ c.in_ok-first.ensures.line in
    served_told _ _ _ (λ p. first_line p c.args.socket) (closed_line c.args.connections) c.as_str-first.result.now port is c.serve_at-served.result c.serve_at-served.ensures
