use Rattle.ring_server.proofs.Gaining.{answer_gains, run_gains}
use Rattle.ring_server.proofs.sessions.answer.Goals as goal

-- each line adds a call of the session, or nothing
pub returns-in-Some-clause-gained : goal.returns-in-Some-clause-gained
returns-in-Some-clause-gained g c =
    let served = c.serve_placed.ensures.served in
    run_gains c.args.session (λ seat. seat.mine) _ (λ line old answer new placed. answer_gains c.args.session line old.mine _ new.mine placed.0) served.lines served.given _ _ served.run

pub returns-in-None-clause-gained : goal.returns-in-None-clause-gained
returns-in-None-clause-gained g c =
    let served = c.serve.ensures.served in
    run_gains c.args.session (λ seat. seat.mine) _ (λ line old answer new answers. answer_gains c.args.session line old.mine answer new.mine answers) served.lines served.given _ _ served.run
