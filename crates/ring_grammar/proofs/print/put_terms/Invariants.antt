use Rattle.std.proofs.Common.{◌++◌, codes, take}
use Rattle.std.specs.Prelude.{IfSome}
use Rattle.ring_grammar.specs.Identities.{IsNode}
use Rattle.ring_grammar.specs.Spelling.{term_words}
use Rattle.ring_grammar.proofs.Putting.{PutSoFar, spaced}
use Rattle.ring_grammar.proofs.print.put_terms.Given as goal

abbrev pub invariant-loop-index : goal.invariant-loop-index
invariant-loop-index g l = PutSoFar g.W.Sink.takes (λ leader. IfSome leader IsNode) l.fn.out (codes "terms" ++ spaced (take l.index (term_words 1 l.leaders))) (take l.index l.leaders) l.out
