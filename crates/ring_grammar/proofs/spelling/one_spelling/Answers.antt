use Rattle.ring_grammar.proofs.OneEvent.{events_have_one_spelling}
use Rattle.ring_grammar.proofs.OneReply.{replies_are_lines, replies_have_one_spelling}
use Rattle.ring_grammar.proofs.spelling.one_spelling.Goals as goal

pub returns-clause-events : goal.returns-clause-events
returns-clause-events c = events_have_one_spelling

pub returns-clause-replies : goal.returns-clause-replies
returns-clause-replies c = replies_have_one_spelling

pub returns-clause-lines : goal.returns-clause-lines
returns-clause-lines c = replies_are_lines
