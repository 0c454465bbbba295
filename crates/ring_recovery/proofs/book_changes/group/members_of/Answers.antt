use Rattle.std.proofs.Common.{◌++◌, ◌∷◌, ◌∙◌, [], ap, sym}
use Rattle.ring_recovery.proofs.Compacting.{take_at}
use Rattle.ring_recovery.proofs.book_changes.group.members_of.Goals as goal

pub loop-position-preserved : goal.loop-position-preserved
loop-position-preserved c =
    c.in-Ok.ensures.items
    ∙ ap (λ members. members ++ c.in-Some.member ∷ []) c.loop-position.invariant
    ∙ sym (take_at c.args.ring.now c.loop-position.position c.in-Some.member (sym c.in-Some.ensures.value))
