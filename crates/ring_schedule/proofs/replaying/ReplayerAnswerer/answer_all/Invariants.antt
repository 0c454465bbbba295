use Rattle.std.proofs.Common.{◌≡◌, take, vec_capacity, vec_len}
use Rattle.ring_lines.specs.Batches.{AnswersAll}
use Rattle.ring_schedule.specs.Replay.{RepliesTo}
use Rattle.ring_schedule.specs.private.Asking.{AsksEvent}
use Rattle.ring_schedule.proofs.replaying.ReplayerAnswerer.answer_all.Given as goal

-- what was asked so far is answered, and there is room for the other answers
abbrev pub invariant-loop-question : goal.invariant-loop-question
invariant-loop-question l = record {
  answered : AnswersAll AsksEvent RepliesTo (take l.question-index l.asked) l.fn.state l.given.items l.state;
  count : vec_len l.given ≡ l.question-index;
  room : vec_capacity l.given ≡ vec_capacity l.fn.given;
}
