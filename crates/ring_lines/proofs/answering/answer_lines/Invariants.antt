use Rattle.std.proofs.Common.{◌≡◌, ◌⊎◌}
use Rattle.ring_lines.specs.Reader.{most_bytes}
use Rattle.ring_lines.proofs.AnsweringLines.{Answering, end}
use Rattle.ring_lines.proofs.answering.answer_lines.Given as goal

abbrev pub invariant-loop-found : goal.invariant-loop-found
invariant-loop-found g l = record {
  holds : g.A.Answerer.holds l.fn.answerer l.state;
  told : (l.state ≡ l.fn.state) ⊎ g.A.Answerer.may_tell l.fn.answerer l.state;
  answering : Answering (end g.R.Intake.read_gives l.fn.reader l.reader) (end g.W.Outlet.write_gives l.fn.writer l.writer) (record { answers = g.A.Answerer.answers l.fn.answerer; spelling = g.A.Answer.Spell.spelling; is_legal = g.A.Answer.Spell.is_legal }) l.fn.state l.fn.reads l.count l.lines l.page.text l.state;
}

abbrev pub decreases-loop-found : goal.decreases-loop-found
decreases-loop-found g l = most_bytes l.lines
