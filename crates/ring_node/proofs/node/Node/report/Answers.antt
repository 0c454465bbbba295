-- The report names the charter, the member and the leader that it knows.
use Rattle.std.proofs.Common.{sym, ap, ◌∙◌}
use Rattle.std.specs.Prelude.{slice_get}
use Rattle.ring_node.specs.declared.charter.Charter.{Charter}
use Rattle.ring_node.specs.Nodes.{Seated}
use Rattle.ring_node.proofs.Telling.{tells_known, tells_unknown}
use Rattle.ring_node.proofs.node.Node.report.Goals as goal

pub returns : goal.returns
returns g c =
    let node : Seated g.row.E.Denot g.row.E-Msg.Denot = record { charter = c.self.inside.charter.value; position = c.self.inside.position; journal = c.self.inside.journal.items } in
    let same = rw (← c.self.view_is) at c.requires in
    rw (← c.self.view_is)
    (tells_known g.E.RingElection.table node c.args.copy.value c.self.inside.me c.in_ok-leader.leader c.new.result same c.self.invariant.here (sym c.self.invariant.known_is ∙ c.in_ok-leader.was) c.new.ensures)

pub new-requires-clause-truthful : goal.new-requires-clause-truthful
new-requires-clause-truthful g c =
    let same = c.requires ∙ sym (ap (λ (node : Seated g.row.E.Denot g.row.E-Msg.Denot). node.charter) c.self.view_is) in
    rw same
    (record {
      is_ring = c.self.invariant.is_ring;
      inside = (c.self.inside.position, c.self.invariant.here);
      wins = c.self.invariant.knows c.in_ok-leader.leader c.in_ok-leader.was;
    })

pub new-requires-clause-there : goal.new-requires-clause-there
new-requires-clause-there g c =
    let same = c.requires ∙ sym (ap (λ (node : Seated g.row.E.Denot g.row.E-Msg.Denot). node.charter) c.self.view_is) in
    ap (λ (charter : Charter g.row.E.Denot). slice_get charter.roster c.self.inside.position) same ∙ c.self.invariant.here

pub returns-in_err-leader : goal.returns-in_err-leader
returns-in_err-leader g c =
    let node : Seated g.row.E.Denot g.row.E-Msg.Denot = record { charter = c.self.inside.charter.value; position = c.self.inside.position; journal = c.self.inside.journal.items } in
    rw (← c.self.view_is)
    (c.from_residual.ensures ∙ tells_unknown g.E.RingElection.table node c.self.inside.me c.self.invariant.here (sym c.self.invariant.known_is ∙ c.in_err-leader.was))
