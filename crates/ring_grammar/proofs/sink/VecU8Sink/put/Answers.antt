-- The bytes are appended to the list.
use Rattle.ring_grammar.proofs.Putting.{appended_whole}
use Rattle.ring_grammar.proofs.sink.VecU8Sink.put.Goals as goal

pub returns-clause-ok : goal.returns-clause-ok
returns-clause-ok c = appended_whole c.extend_from_slice.result c.map_err.result c.args.self.now.items c.args.bytes.now _ c.extend_from_slice.ensures.items c.map_err.ensures.variant
