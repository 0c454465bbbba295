-- A receipt from the side is the next that is counted, and nothing is left after the last one.
use Rattle.std.proofs.Common.{◌≡◌, List, sym, ap, ap₂, ◌∙◌, rules, tests}
use Rattle.std.specs.Prelude.{slice_get}
use Rattle.std.proofs.lemmas.List.{at_drop_all}
use Rattle.ring_id.specs.declared.side.Side.{Side}
use Rattle.ring_election.specs.Traces.{taken_from}
use Rattle.ring_node.specs.declared.packet.Packet.{Packet}
use Rattle.ring_node.proofs.Finding.{get_behind, taken_here, taken_passed}
use Rattle.ring_node.proofs.node.nth_from.Goals as goal
use Rattle.ring_node.proofs.node.nth_from.Goals.{then-eq+else-before-eq0, else-eq}

pub returns : goal.returns
returns g c =
    sym
    (c.loop-receipt.invariant
    ∙ at_drop_all (λ (journal : List (Side × Packet g.row.M.Denot)). slice_get (taken_from c.args.side journal) c.loop-receipt.before) c.args.journal.now c.loop-receipt.receipt-index c.loop-receipt-test.false)

pub returns-then-before-eq0 : goal.returns-then-before-eq0
returns-then-before-eq0 g c =
    let of : c.receipt-item.result.0 ≡ c.args.side = search (rules, tests) in
    sym (c.loop-receipt.invariant ∙ ap₂ slice_get (taken_here _ _ _ _ c.loop-receipt-test.true c.receipt-item.is of) c.if-before-eq0.true)

pub loop-receipt-preserved : goal.loop-receipt-preserved
loop-receipt-preserved g c =
    c.loop-receipt.invariant
    ∙ elim c.if-eq.branch [
      | then-eq+else-before-eq0 w ↦
          (let of : c.receipt-item.result.0 ≡ c.args.side = search (rules, tests, w.if-eq.ensures) in
          ap (λ (packets : List (Packet g.row.M.Denot)). slice_get packets c.loop-receipt.before) (taken_here _ _ _ _ c.loop-receipt-test.true c.receipt-item.is of)
          ∙ get_behind _ _ _ _ w.if-before-eq0.false w.before-is)
      | else-eq w ↦
          (let not : c.receipt-item.result.0 ≡ c.args.side → ⊥ = search (rules, tests, w.if-eq.ensures) in
          ap₂ slice_get (taken_passed _ _ _ _ c.loop-receipt-test.true c.receipt-item.is not) (sym w.before-is))
    ]
