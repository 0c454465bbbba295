use Rattle.ring_grammar.proofs.Digits.{Reading}
use Rattle.ring_grammar.proofs.values.number.Given as goal

-- the digits so far were read
abbrev pub invariant-loop-byte : goal.invariant-loop-byte
invariant-loop-byte l = Reading l.text l.byte-index l.value
