-- The line that comes next follows those that were carried out.
use Rattle.std.proofs.Common.{List, ◌∷◌, ℕ, Err, ap, arith, inr, refl, subst}
use Rattle.ring_recovery.proofs.Reading.{IsRead, bad_line, ends_within, next_line}
use Rattle.ring_recovery.proofs.recovery.replay_lines.Goals as goal
use Rattle.ring_recovery.proofs.recovery.replay_lines.Goals.{In-Some}

-- the lines that were read before this line
before : (c : In-Some) → IsRead c.args.found.now (c.in-Some.line.now ∷ c.next.new.self) c.loop-line.table c.loop-line.check c.loop-line.at
before c = subst (λ (rest : List (List ℕ)). IsRead c.args.found.now rest c.loop-line.table c.loop-line.check c.loop-line.at) c.in-Some.ensures.steps c.loop-line.invariant.read

pub overflow_add-at-in-Ok : goal.overflow_add-at-in-Ok
overflow_add-at-in-Ok c = omega (arith, ends_within _ _ _ _ _ _ (before (goal.at.overflow_add-at-in-Ok c).In-Some))

pub loop-line-preserved : goal.loop-line-preserved
loop-line-preserved c = record {
  can_next = tt;
  is_finite = tt;
  read = next_line _ _ _ _ _ _ (before (goal.at.loop-line-preserved c).In-Some) _ _ _ c.in-Ok.ensures.ok refl;
}

pub returns-in-Err-Refused-clause-err : goal.returns-in-Err-Refused-clause-err
returns-in-Err-Refused-clause-err c =
    let replays = c.follows_replays.ensures c.loop-line.table.history _ c.loop-line.table.book c.in-Err-Refused.ensures.legal in
    inr (inr (bad_line _ _ _ _ _ _ (before (goal.at.returns-in-Err-Refused-clause-err c).In-Some) replays (c.in-Err-Refused.ensures.refused (ap Err c.in-Err-Refused.field-0-is))))
