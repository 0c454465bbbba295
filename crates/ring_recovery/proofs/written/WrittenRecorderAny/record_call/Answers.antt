-- The line of the change follows the others. Without a change the lines stay the same.
use Rattle.std.proofs.Common.{◌∙◌, ap, length, refl, sym}
use Rattle.ring_table.specs.declared.entry.Entry.TheVariants.{Call}
use Rattle.ring_recovery.proofs.Adding.{room_left, with_change, with_question, without_change}
use Rattle.ring_recovery.proofs.Keeping.{leaves_more}
use Rattle.ring_recovery.proofs.written.WrittenRecorderAny.record_call.Goals as goal

pub invariant_of-self : goal.invariant_of-self
invariant_of-self g c =
    rw c.record_call.ensures.added
    (with_change _ _ (Call c.args.session c.args.command c.args.reply.now) c.in-Some.change _ _ _ _ _ c.self.invariant (room_left _ _ (rw (← c.self.view_is) at c.requires)) (sym c.in-Some.ensures) c.add_line-more.ensures.legal c.add_line-more.ensures.added c.add_line-more.ensures.check)

pub invariant_of-self-then-was_settled : goal.invariant_of-self-then-was_settled
invariant_of-self-then-was_settled g c =
    let all = rw (← c.self.view_is) at (c.is_settled-was_settled.ensures.settled.0 c.if-was_settled.true) in
    rw c.record_call.ensures.added (with_question _ _ (Call c.args.session c.args.command c.args.reply.now) _ _ _ _ c.self.invariant (room_left _ _ (rw (← c.self.view_is) at c.requires)) (sym c.in-None.ensures) all (c.count-self-inside.ensures.value ∙ ap length c.record_call.ensures.added))

pub invariant_of-self-else-was_settled : goal.invariant_of-self-else-was_settled
invariant_of-self-else-was_settled g c =
    rw c.record_call.ensures.added (without_change _ _ (Call c.args.session c.args.command c.args.reply.now) _ _ _ c.self.invariant (room_left _ _ (rw (← c.self.view_is) at c.requires)) (sym c.in-None.ensures))

pub returns-in-Some-clause-any_moment : goal.returns-in-Some-clause-any_moment
returns-in-Some-clause-any_moment g c =
    leaves_more c.args.self.now _ (Call c.args.session c.args.command c.args.reply.now) _ _ c.is_settled-was_settled.ensures.any_moment (rw (← c.self.view_is) refl) (rw (← c.self.view_is) c.record_call.ensures.added) (rw (← c.self.view_is) c.add_line-more.ensures.added.disk)

pub returns-in-None-clause-any_moment : goal.returns-in-None-clause-any_moment
returns-in-None-clause-any_moment g c =
    leaves_more c.args.self.now _ (Call c.args.session c.args.command c.args.reply.now) _ _ c.is_settled-was_settled.ensures.any_moment (rw (← c.self.view_is) refl) (rw (← c.self.view_is) c.record_call.ensures.added) (rw (← c.self.view_is) refl)

pub returns-else-was_settled-clause-any_moment : goal.returns-else-was_settled-clause-any_moment
returns-else-was_settled-clause-any_moment g c =
    leaves_more c.args.self.now _ (Call c.args.session c.args.command c.args.reply.now) _ _ c.is_settled-was_settled.ensures.any_moment (rw (← c.self.view_is) refl) (rw (← c.self.view_is) c.record_call.ensures.added) (rw (← c.self.view_is) refl)
