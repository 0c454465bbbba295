use Rattle.std.proofs.Common.{◌≡◌, ◌∙◌}
use Rattle.ringd.proofs.Telling.{ran_told}
use Rattle.ringd.specs.Run.{first_line}
use Rattle.ringd.proofs.run.run.Goals as goal

pub returns : goal.returns
returns g c =
    let port = c.in_ok-config.config.port in
    let is : c.as_str.result.now ≡ first_line port c.args.places.sessions = c.as_str.ensures.value ∙ c.in_ok-first.ensures.line in
    ran_told _ _ _ (λ p. first_line p c.args.places.sessions) c.as_str.result.now port is c.run_at-ran.result c.run_at-ran.ensures
