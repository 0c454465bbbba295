-- The changes of the groups so far, and of the next one.
use Rattle.std.proofs.Common.{◌≤◌, [], length, arith, subst, sym, rules}
use Rattle.ring_lives.specs.Replays.{Replays}
use Rattle.ring_recovery.specs.BookChanges.{book_changes}
use Rattle.ring_recovery.specs.private.MostChanges.{most_changes}
use Rattle.ring_recovery.proofs.book_changes.Adding.{entry_kept, group_added, groups_added}
use Rattle.ring_recovery.proofs.book_changes.Bounding.{few_changes}
use Rattle.ring_recovery.proofs.book_changes.Leading.{leads_to}
use Rattle.ring_recovery.proofs.book_changes.Starting.{may_lead}
use Rattle.ring_recovery.proofs.book_changes.changes_of_book.Goals as goal

pub add_group-requires : goal.add_group-requires
add_group-requires g c = (entry_kept g.E.RingElection.winner c.args.book.now c.loop-place.place c.in-Some.group c.len-place-end.ensures.kept (sym c.in-Some.ensures)).short

pub loop-place-preserved : goal.loop-place-preserved
loop-place-preserved g c =
    group_added c.args.book.now c.loop-place.place c.in-Some.group c.loop-place.changes.items c.add_group.new.changes.items _ (sym c.in-Some.ensures) c.in_ok-add_group.ensures c.loop-place.invariant

pub returns-clause-leads : goal.returns-clause-leads
returns-clause-leads g c =
    let past : length c.args.book.now ≤ c.loop-place.place = omega (arith, c.loop-place-test.false, c.len-place-end.ensures.value) in
    let all = groups_added c.args.book.now c.loop-place.place c.loop-place.changes.items (book_changes c.args.book.now) past c.loop-place.invariant in
    subst (λ changes. Replays g.E.RingElection.is_greatest [] changes c.args.book.now) (sym all)
    (leads_to g.E.RingElection.is_greatest g.E.RingElection.winner (λ algorithm. may_lead (g.met.E.RingElection.lawful algorithm)) c.args.book.now c.len-place-end.ensures.kept)

pub returns-clause-bound : goal.returns-clause-bound
returns-clause-bound g c =
    let past : length c.args.book.now ≤ c.loop-place.place = omega (arith, c.loop-place-test.false, c.len-place-end.ensures.value) in
    let all = groups_added c.args.book.now c.loop-place.place c.loop-place.changes.items (book_changes c.args.book.now) past c.loop-place.invariant in
    subst (λ changes. length changes ≤ most_changes c.args.book.now) (sym all) (few_changes g.E.RingElection.winner c.args.book.now c.len-place-end.ensures.kept)

pub loop-place-init : goal.loop-place-init
loop-place-init g c = search rules
