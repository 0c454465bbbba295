-- If the LF was not put, a prefix of it was, after the words. So a prefix of the line was put.
use Rattle.ring_grammar.proofs.Putting.{put_stopped_last}
use Rattle.ring_grammar.proofs.print.print_reply.Goals as goal

pub returns-clause-err : goal.returns-clause-err
returns-clause-err g c = put_stopped_last g.met.W.Sink.laws c.put.result _ _ _ _ _ c.in_ok-put_words.ensures.ok c.put.ensures.err
