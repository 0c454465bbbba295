use Rattle.std.proofs.Common.{◌++◌, codes, map, take}
use Rattle.ring_grammar.specs.Identities.{IsNode, node_word}
use Rattle.ring_grammar.proofs.Putting.{PutSoFar, spaced}
use Rattle.ring_grammar.proofs.print.put_members.Given as goal

abbrev pub invariant-loop-member : goal.invariant-loop-member
invariant-loop-member g l = PutSoFar g.W.Sink.takes IsNode l.fn.out (codes "members" ++ spaced (take l.member-index (map node_word l.members))) (take l.member-index l.members) l.out
