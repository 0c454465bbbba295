-- The fields after the step follow from the longer journal. If it was refused, they are the old
-- ones.
use Rattle.std.proofs.Common.{◌+◌, ◌<◌, List, [], ◌∷◌, ◌++◌, refl, sym, ap, ◌∙◌, arith}
use Rattle.std.proofs.lemmas.Option.{get_or_from_slice_get, slice_get_within}
use Rattle.std.proofs.lemmas.Result.{err_from_is_err_and}
use Rattle.ring_id.specs.declared.side.Side.{Side}
use Rattle.ring_id.specs.declared.side.Side.TheVariants.{Left, Right}
use Rattle.ring_election.specs.Traces.{taken_from}
use Rattle.ring_node.specs.declared.charter.Charter.{Charter}
use Rattle.ring_node.specs.declared.packet.Packet.{Packet}
use Rattle.ring_node.specs.Journals.{news}
use Rattle.ring_node.proofs.Gaining.{receiving_gains}
use Rattle.ring_node.proofs.Receipts.{counts-length, length-taken_from}
use Rattle.ring_node.proofs.Steps.{news_is_winner, news_next, journal_seen, nothing_left, seated_step, seated_still, truthful_news}
use Rattle.ring_node.proofs.node.Node.accept.Goals as goal

pub count-requires-clause-left_fits : goal.count-requires-clause-left_fits
count-requires-clause-left_fits g c =
    let journal = c.self.inside.journal in
    let is = c.self.invariant.left_is in
    let counts = c.run.ensures.counts_left in
    let algos : c.run.new.left.algos + 1 < 18446744073709551616 =
    omega (arith, counts.0, c.prepare.ensures.left.1, is.algos_is, counts-length (taken_from Left journal.items), length-taken_from Left journal.items, journal.ok.0, journal.ok.1, journal.small) in
    let leaders : c.run.new.left.leaders + 1 < 18446744073709551616 =
    omega (arith, counts.1, c.prepare.ensures.left.2, is.leaders_is, counts-length (taken_from Left journal.items), length-taken_from Left journal.items, journal.ok.0, journal.ok.1, journal.small) in
    (algos, leaders)

pub count-requires-clause-right_fits : goal.count-requires-clause-right_fits
count-requires-clause-right_fits g c =
    let journal = c.self.inside.journal in
    let is = c.self.invariant.right_is in
    let counts = c.run.ensures.counts_right in
    let algos : c.announce.new.self.algos + 1 < 18446744073709551616 =
    omega (arith, c.announce.ensures.algos, counts.0, c.prepare.ensures.right.1, is.algos_is, counts-length (taken_from Right journal.items), length-taken_from Right journal.items, journal.ok.0, journal.ok.1, journal.small) in
    let leaders : c.announce.new.self.leaders + 1 < 18446744073709551616 =
    omega (arith, c.announce.ensures.leaders, counts.1, c.prepare.ensures.right.2, is.leaders_is, counts-length (taken_from Right journal.items), length-taken_from Right journal.items, journal.ok.0, journal.ok.1, journal.small) in
    (algos, leaders)

pub run-requires-clause-closed : goal.run-requires-clause-closed
run-requires-clause-closed g c =
    let lawful = g.met.E.RingElection.lawful c.self.inside.charter.value.algorithm in
    let proper = rw (← c.self.view_is) at c.requires in
    rw (c.algorithm-algorithm.ensures, c.deref.ensures) (λ one_way. nothing_left _ _ _ lawful _ _ _ _ _ _ _ _ c.self.invariant c.args.from one_way c.args.packet proper)

pub invariant_of-self-2 : goal.invariant_of-self-2
invariant_of-self-2 g c =
    let lawful = g.met.E.RingElection.lawful c.self.inside.charter.value.algorithm in
    let same = ap g.E.RingElection.table (c.algorithm-algorithm.ensures ∙ ap (λ (charter : Charter g.row.E.Denot). charter.algorithm) c.deref.ensures) in
    let taken = (c.args.from, c.args.packet) ∷ [] in
    seated_step _ _ _ lawful _ _ _ _ _ _ _ _ c.self.invariant c.args.from c.args.packet (rw (← c.self.view_is) at c.requires) _ same
    _ c.in_ok-brought.ensures.state _ c.in_ok-brought.ensures.brought _ c.learn-news.ensures.known _ c.learn-news.ensures.news
    c.prepare.new.left c.run.new.left c.count.new.left c.prepare.ensures.left c.in_ok-brought.ensures.left c.run.ensures.counts_left c.count.ensures.sent_left c.count.ensures.algos_left c.count.ensures.leaders_left
    c.prepare.new.right c.run.new.right c.announce.new.self c.count.new.right c.prepare.ensures.right c.in_ok-brought.ensures.right c.run.ensures.counts_right
    c.announce.ensures.sent c.announce.ensures.algos c.announce.ensures.leaders c.count.ensures.sent_right c.count.ensures.algos_right c.count.ensures.leaders_right
    _ (c.push_reserved.ensures.items ∙ ap (λ (l : List (Side × Packet g.row.E-Msg.Denot)). l ++ taken) c.prepare.ensures.journal)

pub returns-clause-journal : goal.returns-clause-journal
returns-clause-journal g c = rw (← c.self.view_is, c.push_reserved.ensures.items, c.prepare.ensures.journal) refl

pub returns-clause-gains : goal.returns-clause-gains
returns-clause-gains g c = rw (← c.self.view_is, c.push_reserved.ensures.items, c.prepare.ensures.journal) (receiving_gains _ _ _ _)

pub returns-clause-news : goal.returns-clause-news
returns-clause-news g c =
    let lawful = g.met.E.RingElection.lawful c.self.inside.charter.value.algorithm in
    let brought_is = rw (c.algorithm-algorithm.ensures, c.deref.ensures) at c.in_ok-brought.ensures.brought in
    rw (← c.self.view_is, c.push_reserved.ensures.items, c.prepare.ensures.journal, get_or_from_slice_get _ _ _ 0 c.self.invariant.here)
    (c.learn-news.ensures.news ∙ ap (news c.self.inside.known) brought_is
    ∙ sym (news_next _ _ _ lawful _ _ _ _ _ _ _ _ c.self.invariant c.args.from c.args.packet))

pub returns-clause-truthful : goal.returns-clause-truthful
returns-clause-truthful g c =
    let lawful = g.met.E.RingElection.lawful c.self.inside.charter.value.algorithm in
    let brought_is = rw (c.algorithm-algorithm.ensures, c.deref.ensures) at c.in_ok-brought.ensures.brought in
    let proper = rw (← c.self.view_is) at c.requires in
    rw (← c.self.view_is, get_or_from_slice_get _ _ _ 0 c.self.invariant.here)
    (truthful_news _ _ _ _ c.self.invariant.is_ring c.self.invariant.here _
    (λ v h. news_is_winner _ _ _ lawful _ _ _ _ _ _ _ _ c.self.invariant c.args.from c.args.packet proper v
    (sym (c.learn-news.ensures.news ∙ ap (news c.self.inside.known) brought_is) ∙ h)))

pub returns-clause-faithful : goal.returns-clause-faithful
returns-clause-faithful g c =
    let new = invariant_of-self-2 g c in
    record {
      is_ring = new.is_ring;
      inside = slice_get_within _ _ _ new.here;
      fitting = new.fitting;
      knows = λ v h. new.knows v (new.known_is ∙ rw (get_or_from_slice_get _ _ _ 0 new.here) at h);
    }

pub run-requires-clause-room_left : goal.run-requires-clause-room_left
run-requires-clause-room_left g c = λ both. c.in_ok-prepare.ensures.room_left (c.two_way.ensures ∙ both)

pub run-requires-clause-room_right : goal.run-requires-clause-room_right
run-requires-clause-room_right g c = c.in_ok-prepare.ensures.room_right

pub announce-requires : goal.announce-requires
announce-requires g c = c.run.ensures.room

pub push_reserved-requires : goal.push_reserved-requires
push_reserved-requires g c = omega (arith, c.in_ok-prepare.ensures.room_journal)

pub invariant_of-self : goal.invariant_of-self
invariant_of-self g c =
    seated_still _ _ _ _ _ _ _ _ _ _ _ c.self.invariant _ refl _ c.prepare.ensures.journal c.prepare.new.left c.prepare.new.right c.prepare.ensures.left c.prepare.ensures.right

pub returns-in_err-prepare : goal.returns-in_err-prepare
returns-in_err-prepare g c =
    let p = err_from_is_err_and c.from_residual.result c.from_residual.ensures.1 in
    let same = journal_seen g.row.E.Denot g.row.E-Msg.Denot c.self.inside.charter.value c.self.inside.position _ _ c.prepare.ensures.journal in
    rw p.1 (record { journal = tt; gains = tt; news = tt; truthful = tt; faithful = tt; err = same ∙ c.self.view_is })

pub invariant_of-self-in_err-brought : goal.invariant_of-self-in_err-brought
invariant_of-self-in_err-brought g c =
    let before = c.prepare.ensures in
    let run = c.run.ensures in
    let gone = c.in_err-brought.ensures in
    seated_still _ _ _ _ _ _ _ _ _ _ _ c.self.invariant _ gone.err _ before.journal c.run.new.left c.run.new.right
    (gone.err_left ∙ before.left.0, run.counts_left.0 ∙ before.left.1, run.counts_left.1 ∙ before.left.2)
    (gone.err_right ∙ before.right.0, run.counts_right.0 ∙ before.right.1, run.counts_right.1 ∙ before.right.2)

pub returns-in_err-brought : goal.returns-in_err-brought
returns-in_err-brought g c =
    let p = err_from_is_err_and c.from_residual-in_err-brought.result c.from_residual-in_err-brought.ensures.1 in
    let same = journal_seen g.row.E.Denot g.row.E-Msg.Denot c.self.inside.charter.value c.self.inside.position _ _ c.prepare.ensures.journal in
    rw p.1 (record { journal = tt; gains = tt; news = tt; truthful = tt; faithful = tt; err = same ∙ c.self.view_is })
