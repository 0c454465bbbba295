-- The session of this number gains the entries of its seat, and leaves the seat settled or
-- unchanged.
use Rattle.ring_server.proofs.Logging.{session_logged_as}
use Rattle.ring_server.proofs.sessions.SessionHandlerClientHandler.serve.Goals as goal

pub returns-clause-served : goal.returns-clause-served
returns-clause-served g c =
    session_logged_as _ _ _ c.told_base-base.result _ c.args.session c.args.self.now.reads _ _ _ c.told_base-base.ensures.value c.answer.ensures.served

pub returns-clause-gained : goal.returns-clause-gained
returns-clause-gained g c = c.answer.ensures.gained

pub returns-clause-told : goal.returns-clause-told
returns-clause-told g c = c.answer.ensures.told
