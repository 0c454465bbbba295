-- All names, and then each group.
use Rattle.ring_http.proofs.Questions.{lacks_if_listed}
use Rattle.ring_http.proofs.asking.Asker.all.Goals as goal

pub returns-clause-err : goal.returns-clause-err
returns-clause-err g c = lacks_if_listed _ c.in_ok-names.names _ _ _ c.pictures.result c.in_ok-names.ensures.asks c.pictures.ensures.err
