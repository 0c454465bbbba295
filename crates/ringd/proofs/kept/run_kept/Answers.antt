use Rattle.std.proofs.Common.{◌≡◌, ◌∙◌}
use Rattle.ringd.proofs.Telling.{kept_told}
use Rattle.ringd.specs.Run.{first_line}
use Rattle.ringd.proofs.kept.run_kept.Goals as goal

pub returns : goal.returns
returns g c =
    let port = c.in_ok-config.config.port in
    let is : c.as_str-first.result.now ≡ first_line port c.args.places.sessions = c.as_str-first.ensures.value ∙ c.in_ok-first.ensures.line in
    kept_told _ _ _ (λ p. first_line p c.args.places.sessions) c.as_str-first.result.now port is c.resume_from-ran.result c.resume_from-ran.ensures
