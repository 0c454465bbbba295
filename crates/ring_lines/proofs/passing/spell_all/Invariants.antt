use Rattle.std.proofs.Common.{take}
use Rattle.std.specs.List.{All}
use Rattle.ring_lines.specs.Rounds.{text_of}
use Rattle.ring_lines.proofs.passing.spell_all.Given as goal

-- the answers so far are put, and legal
abbrev pub invariant-loop-answer : goal.invariant-loop-answer
invariant-loop-answer g l = record {
  put : g.S.Sink.takes l.fn.out (text_of g.A.Spell.spelling (take l.answer-index l.answers)) l.out;
  legal : All g.A.Spell.is_legal (take l.answer-index l.answers);
}
