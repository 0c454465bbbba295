-- The changes of the terms so far, of the next one, and of the present members.
use Rattle.std.proofs.Common.{◌≡◌, ◌++◌, ◌∙◌, arith, ap, sym}
use Rattle.std.specs.Prelude.{OnOk}
use Rattle.std.proofs.lemmas.Option.{slice_get_within}
use Rattle.ring_recovery.specs.BookChanges.{group_changes, moves}
use Rattle.ring_recovery.proofs.book_changes.Adding.{members_added, term_added, where_ok}
use Rattle.ring_recovery.proofs.book_changes.group.add_group.Goals as goal

pub loop-term-preserved : goal.loop-term-preserved
loop-term-preserved g c = record {
  within = omega (arith, slice_get_within c.args.group.now.1.terms c.loop-term.place c.in-Some.term (sym c.in-Some.ensures));
  story = term_added c.name-name.result c.loop-term.place c.in-Some-new.number c.loop-term.before.items c.deref.result.now c.in_ok-ring.ring.items c.args.group.now.1.terms c.in-Some.term c.args.group.now.1.members
      c.loop-term.changes.items c.add_term.new.changes.items _ (sym c.in-Some.ensures) c.in-Some-new.ensures.value (c.in_ok-ring.ensures ∙ c.ring.ensures) c.deref.ensures.value c.in_ok-add_term.ensures c.loop-term.invariant.story;
}

pub returns : goal.returns
returns g c =
    let is : OnOk c.add_moves.result (c.add_moves.new.changes.items ≡ c.loop-term.changes.items ++ moves c.name-name.result c.deref-2.result.now c.members.result.now) = c.add_moves.ensures in
    where_ok c.add_moves.result is (λ moved.
    members_added c.name-name.result c.loop-term.place _ c.loop-term.before.items c.deref-2.result.now c.args.group.now.1.terms c.args.group.now.1.members c.members.result.now c.loop-term.changes.items c.add_moves.new.changes.items _
    (sym c.in_default.ensures) c.loop-term.invariant.story c.deref-2.ensures.value c.members.ensures moved
    ∙ ap (λ name. c.args.changes.now.items ++ group_changes name c.args.group.now.1) c.name-name.ensures)
