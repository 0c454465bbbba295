use Rattle.std.proofs.Common.{◌++◌, codes, take}
use Rattle.ring_id.specs.GroupName.{IsName}
use Rattle.ring_grammar.proofs.Putting.{PutSoFar, spaced}
use Rattle.ring_grammar.proofs.print.put_groups.Given as goal

abbrev pub invariant-loop-name : goal.invariant-loop-name
invariant-loop-name g l = PutSoFar g.W.Sink.takes IsName l.fn.out (codes "groups" ++ spaced (take l.name-index l.names)) (take l.name-index l.names) l.out
