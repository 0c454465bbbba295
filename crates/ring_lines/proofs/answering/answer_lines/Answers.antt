use Rattle.std.proofs.Common.{ap, inl, inr, refl, subst, [], ◌∷◌, ◌++◌}
use Rattle.std.specs.List.{AllZip}
use Rattle.ring_lines.specs.Reader.{ShowsLine, answer_told}
use Rattle.ring_lines.specs.Rounds.{RunOf}
use Rattle.ring_lines.specs.declared.answers.Found.{Found}
use Rattle.ring_lines.specs.declared.answers.Next.TheVariants as next
use Rattle.ring_lines.proofs.AnsweringLines.{AnsweringNext, answering_none, answering_over, answers_none, closes_end, closes_fault, end, fails, turned_next}
use Rattle.ring_lines.proofs.OwingLines.{Owing, answering_passed, fails_lines, owing_come, owing_joined}
use Rattle.ring_lines.proofs.Batching.{asks_line, asks_long, asks_some}
use Rattle.ring_lines.proofs.answering.answer_lines.Given.{Over}
use Rattle.ring_lines.proofs.answering.answer_lines.Goals as goal
use Rattle.ring_lines.proofs.answering.answer_lines.Goals.{After-answer, After-begin, After-read_held, In-Ok-turn_to_next, in-Line, in-Long}

-- the next answer of the buffer
come : (g : Over) (c : In-Ok-turn_to_next g) → AnsweringNext (end g.R.Intake.read_gives c.args.reader.now c.turn_to_next.new.reader) (end g.W.Outlet.write_gives c.args.writer.now c.turn_to_next.new.writer) (record { answers = g.A.Answerer.answers c.args.answerer.now; spelling = g.A.Answer.Spell.spelling; is_legal = g.A.Answer.Spell.is_legal }) c.args.state.now c.args.reads c.loop-found.count (answer_told c.in-Ok-turn_to_next.found c.turn_to_next.new.line) c.turn_to_next.new.lines c.turn_to_next.new.page.text c.loop-found.state
come g c = turned_next _ _ _ _ _ _ _ _ _ _ _ _ _ c.loop-found.invariant.answering _ _ _ _ _ c.in-Ok-turn_to_next.ensures.ok

pub returns-in_default-clause-lines : goal.returns-in_default-clause-lines
returns-in_default-clause-lines g c = answers_none _ _ _ _ _ _ _

pub returns-in_default-new-clause-lines : goal.returns-in_default-new-clause-lines
returns-in_default-new-clause-lines g c = answers_none _ _ _ _ _ _ _

pub returns-in_default-new-2-clause-lines : goal.returns-in_default-new-2-clause-lines
returns-in_default-new-2-clause-lines g c = answers_none _ _ _ _ _ _ _

pub loop-found-init : goal.loop-found-init
loop-found-init g c = record { holds = c.requires; told = inl refl; answering = rw (c.in-Ok.ensures, c.in-Ok-new.ensures) (answering_none _ _ _ _ _ _ _) }

pub returns-in_default-turn_to_next-clause-lines : goal.returns-in_default-turn_to_next-clause-lines
returns-in_default-turn_to_next-clause-lines g c = rw c.in_default-turn_to_next.ensures.err.1 (fails _ _ _ _ _ _ _ _ _ _ _ _ _ c.loop-found.invariant.answering _ c.in_default-turn_to_next.ensures.err.0)

pub returns-in-End-clause-lines : goal.returns-in-End-clause-lines
returns-in-End-clause-lines g c =
    let n = come g (goal.at.returns-in-End-clause-lines g c).In-Ok-turn_to_next in
    let shows : ShowsLine next.End n.come c.turn_to_next.new.lines.phase = subst (λ (found : Found). ShowsLine (answer_told found c.turn_to_next.new.line) n.come c.turn_to_next.new.lines.phase) c.in-End.is n.shows in
    closes_end _ _ _ _ _ _ _ _ _ _ _ _ _ (answering_over _ _ _ _ _ _ _ _ _ _ _ _ _ _ n shows.0) _ _ shows.1 c.close.ensures.closes c.close.ensures.still

pub returns-in-Fault-clause-lines : goal.returns-in-Fault-clause-lines
returns-in-Fault-clause-lines g c =
    let n = come g (goal.at.returns-in-Fault-clause-lines g c).In-Ok-turn_to_next in
    let shows : ShowsLine (next.Fault c.in-Fault.fault) n.come c.turn_to_next.new.lines.phase = subst (λ (found : Found). ShowsLine (answer_told found c.turn_to_next.new.line) n.come c.turn_to_next.new.lines.phase) c.in-Fault.is n.shows in
    closes_fault _ _ _ _ _ _ _ _ _ _ _ _ _ (answering_over _ _ _ _ _ _ _ _ _ _ _ _ _ _ n shows.0) _ _ _ shows.1 c.close-in-Fault.ensures.closes c.close-in-Fault.ensures.still

-- what the line that came asks
asked : (g : Over) (c : After-begin g) → AllZip g.A.Answerer.asks (come g (goal.at.After-begin g c).In-Ok-turn_to_next).come (c.match-found.asked ∷ [])
asked g c =
    let n = come g (goal.at.After-begin g c).In-Ok-turn_to_next in
    elim c.match-found.branch [
      | in-Line w ↦ rw w.asked-is (asks_line _ _ _ _ _ _ _ (ap (λ (found : Found). answer_told found c.turn_to_next.new.line) w.in-Line.is) n.shows w.bytes.ensures.value w.read-asked.ensures)
      | in-Long w ↦ rw w.asked-is (asks_long _ _ _ _ _ (ap (λ (found : Found). answer_told found c.turn_to_next.new.line) w.in-Long.is) n.shows w.read_long-asked.ensures)
    ]

-- it and the lines that were held behind it are owed an answer
owing : (g : Over) (c : After-read_held g) → Owing (end g.R.Intake.read_gives c.args.reader.now c.turn_to_next.new.reader) (end g.W.Outlet.write_gives c.args.writer.now c.turn_to_next.new.writer) (record { answers = g.A.Answerer.answers c.args.answerer.now; spelling = g.A.Answer.Spell.spelling; is_legal = g.A.Answer.Spell.is_legal }) c.args.state.now c.args.reads c.loop-found.count ((come g (goal.at.After-read_held g c).In-Ok-turn_to_next).come ++ c.read_held.ensures.joins.given) c.read_held.new.lines c.turn_to_next.new.page.text c.loop-found.state
owing g c = owing_joined _ _ _ _ _ _ _ _ _ _ _ _ _ _ _ _ _ _ (owing_come _ _ _ _ _ _ _ _ _ _ _ _ _ _ (come g (goal.at.After-read_held g c).In-Ok-turn_to_next)) c.read_held.ensures.joins

-- their answers
run : (g : Over) (c : After-answer g) → RunOf (g.A.Answerer.answers c.args.answerer.now) c.loop-found.state ((come g (goal.at.After-answer g c).In-Ok-turn_to_next).come ++ c.read_held.ensures.joins.given) c.answer.new.self.given c.answer.new.state
run g c =
    let all = asked g (goal.at.After-answer g c).After-begin in
    c.answer.ensures.answered _ (c.read_held.ensures.joins.asked _ (rw c.begin.ensures all))

pub returns-in_default-pass_on-clause-lines : goal.returns-in_default-pass_on-clause-lines
returns-in_default-pass_on-clause-lines g c =
    let p = (goal.at.returns-in_default-pass_on-clause-lines g c).After-answer in
    let o = owing g (goal.at.returns-in_default-pass_on-clause-lines g c).After-read_held in
    fails_lines _ _ _ _ _ _ _ _ _ _ _ _ _ _ o _ _ _ (run g p) (rw (← c.given-given.ensures) c.in_default-pass_on.ensures.err)

pub loop-found-preserved : goal.loop-found-preserved
loop-found-preserved g c =
    let p = (goal.at.loop-found-preserved g c).After-answer in
    let o = owing g (goal.at.loop-found-preserved g c).After-read_held in
    let given = c.read_held.ensures.joins.given in
    let some = asks_some _ _ given _ (asked g (goal.at.loop-found-preserved g c).After-begin) in
    record {
      holds = c.answer.ensures.kept;
      told = inr c.answer.ensures.told;
      answering =
          rw c.given-given.ensures
          (answering_passed _ _ _ _ _ _ _ _ _ _ _ _ _ _ o _ _ _ _ some (run g p)
          (rw (← c.given-given.ensures) c.in-Ok-pass_on.ensures.legal) (rw (← c.given-given.ensures) c.in-Ok-pass_on.ensures.ok));
    }
