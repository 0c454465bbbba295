-- A node that has started knows no leader and has taken nothing.
use Rattle.std.proofs.Common.{refl, sym, ap, ◌∙◌}
use Rattle.std.specs.Prelude.{slice_index}
use Rattle.std.proofs.lemmas.Option.{get_or_from_slice_get, slice_get-get_or, slice_get_within}
use Rattle.ring_id.specs.declared.side.Side.TheVariants.{Left, Right}
use Rattle.ring_election.specs.declared.sends.Sends.{Sends}
use Rattle.ring_election.specs.Tables.{to_side}
use Rattle.ring_node.specs.Ports.{all_algos}
use Rattle.ring_node.proofs.Gaining.{few_first}
use Rattle.ring_node.proofs.Steps.{seated_first}
use Rattle.ring_node.proofs.node.Node.seat.Goals as goal

pub invariant_of-result : goal.invariant_of-result
invariant_of-result g c =
    let state = rw (c.algorithm.ensures, c.deref-2.ensures) at c.start-state.ensures.state in
    let sends = rw (c.algorithm.ensures, c.deref-2.ensures) at c.start-state.ensures.sends in
    let ring = rw (c.roster.ensures, c.deref.ensures) at c.at.ensures.ring in
    let here = sym (rw (c.roster.ensures, c.deref.ensures) at c.at.ensures.value) ∙ c.unwrap-me.ensures in
    rw c.new.ensures.items
    (seated_first _ _ _ _ _ c.unwrap-me.result ring here _ state _ _
    (c.in_ok-left.ensures.sent ∙ ap (λ (s : Sends g.row.E-Msg.Denot). all_algos (to_side Left s)) sends, c.in_ok-left.ensures.algos, c.in_ok-left.ensures.leaders)
    (c.in_ok-right.ensures.sent ∙ ap (λ (s : Sends g.row.E-Msg.Denot). all_algos (to_side Right s)) sends, c.in_ok-right.ensures.algos, c.in_ok-right.ensures.leaders))

pub returns-clause-node : goal.returns-clause-node
returns-clause-node g c = rw c.new.ensures.items refl

pub returns-clause-faithful : goal.returns-clause-faithful
returns-clause-faithful g c =
    let new = invariant_of-result g c in
    record {
      is_ring = new.is_ring;
      inside = slice_get_within _ _ _ new.here;
      fitting = new.fitting;
      knows = λ v h. new.knows v (new.known_is ∙ rw (get_or_from_slice_get _ _ _ 0 new.here) at h);
    }

pub returns-clause-few : goal.returns-clause-few
returns-clause-few g c =
    let ring = c.args.charter.value.roster in
    rw c.new.ensures.items record { each = few_first (g.E.RingElection.table c.args.charter.value.algorithm) (slice_index ring c.args.position) }

pub unwrap-me-requires : goal.unwrap-me-requires
unwrap-me-requires g c =
    let ring = c.args.charter.value.roster in
    let here = rw (c.roster.ensures, c.deref.ensures) at c.at.ensures.value in
    rw (here ∙ slice_get-get_or ring c.args.position 0 c.requires) refl
