use Rattle.std.proofs.Common.{◌≡◌, take, vec_capacity, vec_len}
use Rattle.ring_lines.specs.Batches.{AnswersAll}
use Rattle.ring_service.specs.private.Asking.{AsksCommand}
use Rattle.ring_service.proofs.session.SessionAnswerer.answer_all.Given as goal

-- what was asked so far is answered, and there is room for the other answers
abbrev pub invariant-loop-question : goal.invariant-loop-question
invariant-loop-question g l = record {
  seat : g.A.Access.has_seat l.fn.self.front.now l.state;
  answered : AnswersAll AsksCommand (λ line seat written now. g.F.Format.answers l.fn.self.format g.A.Access.most l.fn.self.number line (g.A.Access.mine seat) written (g.A.Access.mine now)) (take l.question-index l.asked) l.fn.state l.given.items l.state;
  count : vec_len l.given ≡ l.question-index;
  room : vec_capacity l.given ≡ vec_capacity l.fn.given;
}
