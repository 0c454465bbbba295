use Rattle.std.proofs.Common.{◌≡◌, take, vec_capacity, vec_len}
use Rattle.ring_lines.specs.Batches.{AnswersAll}
use Rattle.test_cases.proofs.lines.batches.MarkingAnswerer.answer_all.Given as goal

-- what was asked so far is answered, and there is room for the other answers
abbrev pub invariant-loop-mark : goal.invariant-loop-mark
invariant-loop-mark l = record {
  answered : AnswersAll (λ line mark. Unit {0}) (λ line old answer new. Unit {0}) (take l.mark-index l.asked) l.fn._state l.given.items l._state;
  count : vec_len l.given ≡ l.mark-index;
  room : vec_capacity l.given ≡ vec_capacity l.fn.given;
}
