-- One line more was added.
use Rattle.std.proofs.Common.{◌∙◌, Some, ap, sym}
use Rattle.std.proofs.lemmas.Option.{slice_get-get_or}
use Rattle.ring_any.specs.declared.any.Any.{Any}
use Rattle.ring_change.specs.declared.change.Change.{Change}
use Rattle.ring_recovery.proofs.Shortening.{more_spelled}
use Rattle.ring_recovery.proofs.short.spelled.Goals as goal

pub loop-change-preserved : goal.loop-change-preserved
loop-change-preserved c =
    let change = c.change-item.result in
    let there = slice_get-get_or c.args.changes.now c.loop-change.change-index change c.loop-change-test.true ∙ ap (λ (x : Change Any). Some x) (sym c.change-item.is) in
    more_spelled c.args.life c.args.changes.now c.loop-change.change-index change _ _ _ _ there c.loop-change.invariant c.in_default-put_line.ensures
