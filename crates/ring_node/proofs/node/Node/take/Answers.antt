-- A fault gives back what came, and changes nothing. What comes next is taken, and its news told.
use Rattle.std.proofs.Common.{refl, sym, ap, ◌∙◌}
use Rattle.std.specs.Prelude.{slice_get}
use Rattle.ring_id.specs.Sides.{other}
use Rattle.ring_node.specs.declared.charter.Charter.{Charter}
use Rattle.ring_node.specs.Nodes.{Seated}
use Rattle.ring_node.proofs.Telling.{coming_proper, gains_taken, takes_news, takes_silently, tells_truly}
use Rattle.ring_node.proofs.node.Node.take.Goals as goal
use Rattle.ring_node.proofs.node.Node.take.Goals.{in-Ok-None, in-Ok-Some, in-Err}

pub returns-in-Some-clause-takes : goal.returns-in-Some-clause-takes
returns-in-Some-clause-takes g c = record { why = c.in-Some.ensures; back_is = refl; unchanged = refl }

pub returns-in-Some-clause-gains : goal.returns-in-Some-clause-gains
returns-in-Some-clause-gains g c = tt

pub returns-clause-takes : goal.returns-clause-takes
returns-clause-takes g c =
    let from_is = c.other-from.ensures ∙ ap other c.side.ensures in
    elim c.match-accept.branch [
      | in-Ok-None w ↦ takes_silently g.E.RingElection.table _ _ _ _ _ from_is c.packet.ensures.value _ c.in_default.ensures w.in-Ok-None.ensures.journal (sym w.in-Ok-None.field-0-is ∙ w.in-Ok-None.ensures.news) w.result-is
      | in-Ok-Some w ↦ takes_news g.E.RingElection.table _ _ _ _ _ from_is c.packet.ensures.value _ c.in_default.ensures w.in-Ok-Some.ensures.journal _ _ _ c.self.view_is _ c.self.invariant.here _ (sym w.in-Ok-Some.field-0-is ∙ w.in-Ok-Some.ensures.news) _ w.into_charter-charter.ensures _ w.new.ensures w.result-is
      | in-Err w ↦ rw w.result-is (record { why = c.in_default.ensures; back_is = refl; unchanged = w.in-Err.ensures.err })
    ]

pub returns-clause-gains : goal.returns-clause-gains
returns-clause-gains g c =
    let from_is = c.other-from.ensures ∙ ap other c.side.ensures in
    elim c.match-accept.branch [
      | in-Ok-None w ↦ rw w.result-is (gains_taken g.E.RingElection.table _ _ c.args.envelope _ _ from_is c.packet.ensures.value w.in-Ok-None.ensures.gains)
      | in-Ok-Some w ↦ rw w.result-is (gains_taken g.E.RingElection.table _ _ c.args.envelope _ _ from_is c.packet.ensures.value w.in-Ok-Some.ensures.gains)
      | in-Err w ↦ rw w.result-is tt
    ]

pub accept-requires : goal.accept-requires
accept-requires g c =
    coming_proper g.E.RingElection.fits g.E.RingElection.winner c.args.self.now c.args.envelope _ _ (c.other-from.ensures ∙ ap other c.side.ensures) c.packet.ensures.value c.in_default.ensures c.packet.ensures.sendable

pub new-requires-clause-truthful : goal.new-requires-clause-truthful
new-requires-clause-truthful g c =
    tells_truly g.E.RingElection.winner c.args.self.now.charter _ _ (ap (λ (node : Seated g.row.E.Denot g.row.E-Msg.Denot). node.charter) (c.self.view_is ∙ c.in-Ok-Some.ensures.journal))
    (c.into_charter-charter.ensures ∙ c.in_default.ensures.0.charter) _ _ c.self.invariant.here _ _ _ c.in-Ok-Some.field-0-is c.in-Ok-Some.ensures.truthful

pub new-requires-clause-there : goal.new-requires-clause-there
new-requires-clause-there g c =
    let kept_is = ap (λ (node : Seated g.row.E.Denot g.row.E-Msg.Denot). node.charter) (c.self.view_is ∙ c.in-Ok-Some.ensures.journal) in
    ap (λ (charter : Charter g.row.E.Denot). slice_get charter.roster c.self.inside.position) (c.into_charter-charter.ensures ∙ c.in_default.ensures.0.charter ∙ sym kept_is) ∙ c.self.invariant.here
