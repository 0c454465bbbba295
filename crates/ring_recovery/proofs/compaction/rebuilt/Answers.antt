-- One change more was carried out, or all were.
use Rattle.std.proofs.Common.{◌≡◌, ◌∙◌, List, Some, ap, refl, subst, sym, take}
use Rattle.std.proofs.lemmas.List.{take_all}
use Rattle.std.proofs.lemmas.Option.{slice_get-get_or}
use Rattle.ring_any.specs.declared.any.Any.{Any}
use Rattle.ring_change.specs.declared.change.Change.{Change}
use Rattle.ring_recovery.specs.private.Rebuilding.{IsRebuilt}
use Rattle.ring_recovery.proofs.Compacting.{one_more}
use Rattle.ring_recovery.proofs.compaction.rebuilt.Goals as goal

pub loop-change-preserved : goal.loop-change-preserved
loop-change-preserved c =
    let change = c.change-item.result in
    let there = slice_get-get_or c.args.changes.now c.loop-change.change-index change c.loop-change-test.true ∙ ap (λ (x : Change Any). Some x) (sym c.change-item.is) in
    one_more c.args.life c.args.changes.now c.loop-change.change-index change _ _ _ _ _ _ there c.loop-change.invariant c.in_default-added.ensures

pub returns : goal.returns
returns c =
    let changes = c.args.changes.now in
    let all : take c.loop-change.change-index changes ≡ changes = take_all c.loop-change.change-index changes c.loop-change-test.false in
    let rebuilt = subst (λ (made : List (Change Any)). IsRebuilt c.args.life made c.loop-change.table c.loop-change.check c.loop-change.text.bytes) all c.loop-change.invariant in
    rw c.new-3.ensures (record { made = rebuilt.made; each = rebuilt.each; replayed = rebuilt.replayed; begins = refl })
