-- What was taken next and what was sent next are the same packet, or the lists differ.
use Rattle.std.proofs.Common.{◌≡◌, Some, slice_get, refl, sym, ap, ◌∙◌, arith}
use Rattle.std.proofs.lemmas.Option.{slice_get_read}
use Rattle.ring_id.specs.Sides.{same_side}
use Rattle.ring_world.proofs.Settlements.{another_next, compared_other, compared_same, none_left, one_left, passed_all, passed_over, same_next, side_itself, sides_differ, taken_elsewhere, taken_next, taken_other}
use Rattle.ring_world.proofs.settlement.has_taken.Goals as goal
use Rattle.ring_world.proofs.settlement.has_taken.Goals.{then-eq+then-has+in-Some+else-not-same_packet, else-eq, else-eq-via-then-eq+else-has, else-eq-via-else-eq}

pub loop-receipt-init : goal.loop-receipt-init
loop-receipt-init g c = rw c.receipts-receipts.ensures (λ same. same, λ same. same)

pub offset_bounds-receipts-receipt-index : goal.offset_bounds-receipts-receipt-index
offset_bounds-receipts-receipt-index g c = c.loop-receipt.auto.receipt-index-end

pub overflow_add-next : goal.overflow_add-next
overflow_add-next g c = omega (arith, c.in-Some.ensures.few)

pub returns-in_default : goal.returns-in_default
returns-in_default g c =
    let js = c.receipts-receipts.result.now in
    let k = c.loop-receipt.receipt-index in
    let r = c.receipt-item.result in
    let there : slice_get js k ≡ Some r = slice_get_read js _ k r refl c.loop-receipt-test.true c.receipt-item.is in
    let is = compared_same r.0 c.args.side c.if-eq.ensures in
    let here = ap (same_side c.args.side) is ∙ side_itself c.args.side in
    let some = taken_next c.args.kind c.args.side js k r there here (sym c.if-has.ensures) in
    one_left _ _ _ c.loop-receipt.invariant r.1 _ some (rw (c.in_default.is, c.other.ensures) at c.next_of.ensures.next)

pub returns-then-not-same_packet : goal.returns-then-not-same_packet
returns-then-not-same_packet g c =
    let js = c.receipts-receipts.result.now in
    let k = c.loop-receipt.receipt-index in
    let r = c.receipt-item.result in
    let there : slice_get js k ≡ Some r = slice_get_read js _ k r refl c.loop-receipt-test.true c.receipt-item.is in
    let is = compared_same r.0 c.args.side c.if-eq.ensures in
    let here = ap (same_side c.args.side) is ∙ side_itself c.args.side in
    let some = taken_next c.args.kind c.args.side js k r there here (sym c.if-has.ensures) in
    let differ = λ (same : c.in-Some.sent ≡ r.1). let equal = c.if-not-same_packet.ensures.1 same in let never : ⊥ = cc in never in
    another_next _ _ _ c.loop-receipt.invariant r.1 c.in-Some.sent _ _ some (rw c.other.ensures at c.in-Some.ensures.next) differ

pub loop-receipt-preserved : goal.loop-receipt-preserved
loop-receipt-preserved g c =
    let js = c.receipts-receipts.result.now in
    let k = c.loop-receipt.receipt-index in
    let r = c.receipt-item.result in
    let there : slice_get js k ≡ Some r = slice_get_read js _ k r refl c.loop-receipt-test.true c.receipt-item.is in
    elim c.if-eq.branch [
      | then-eq+then-has+in-Some+else-not-same_packet w ↦
          let is = compared_same r.0 c.args.side w.if-eq.ensures in
          let here = ap (same_side c.args.side) is ∙ side_itself c.args.side in
          let some = taken_next c.args.kind c.args.side js k r there here (sym w.if-has.ensures) in
          let same = w.if-not-same_packet.ensures.0 refl in
          rw w.next-is (same_next _ _ _ c.loop-receipt.invariant r.1 w.in-Some.sent _ _ some (rw w.other.ensures at w.in-Some.ensures.next) same)
      | else-eq w ↦
          rw w.next-is
          (elim w.else-eq.branch [
            | else-eq-via-then-eq+else-has w' ↦
                let is = compared_same r.0 c.args.side w'.if-eq.ensures in
                let here = ap (same_side c.args.side) is ∙ side_itself c.args.side in
                passed_over _ _ _ c.loop-receipt.invariant _ (taken_other c.args.kind c.args.side js k r there here (sym w'.if-has.ensures))
            | else-eq-via-else-eq w' ↦
                let differ = compared_other r.0 c.args.side w'.if-eq.ensures in
                passed_over _ _ _ c.loop-receipt.invariant _ (taken_elsewhere c.args.kind c.args.side js k r there (sides_differ c.args.side r.0 differ))
          ])
    ]

pub returns : goal.returns
returns g c =
    let js = c.receipts-receipts.result.now in
    let all = passed_all c.args.kind c.args.side js c.loop-receipt.receipt-index c.loop-receipt-test.false in
    none_left _ c.args.kind _ c.loop-receipt.next c.next_of-2.result c.is_none.result (rw all at c.loop-receipt.invariant) (rw c.other-2.ensures at c.next_of-2.ensures.next) c.is_none.ensures
