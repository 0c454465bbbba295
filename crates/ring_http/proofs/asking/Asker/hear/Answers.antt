use Rattle.std.proofs.Common.{rules}
use Rattle.ring_http.proofs.asking.Asker.hear.Goals as goal

pub ask-requires-clause-question : goal.ask-requires-clause-question
ask-requires-clause-question g c = search rules
