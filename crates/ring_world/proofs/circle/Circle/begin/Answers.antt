-- Each node has started, and so the world is sound.
use Rattle.std.proofs.Common.{◌≡◌, ◌++◌, ◌∷◌, ◌*◌, List, Bool, [], length, ap, ap₂, ◌∙◌, inl, inr, arith}
use Rattle.ring_node.specs.declared.packet.Packet.{Packet}
use Rattle.ring_id.specs.declared.side.Side.{Side}
use Rattle.ring_node.specs.Nodes.{Seated}
use Rattle.ring_world.proofs.Beginnings.{started_journals, started_more, started_world}
use Rattle.ring_world.proofs.Cuts.{length-bits_from, no_bits}
use Rattle.ring_world.proofs.Links.{same_or_not}
use Rattle.ring_world.proofs.circle.Circle.begin.Goals as goal

pub loop-position-init : goal.loop-position-init
loop-position-init g c = record { nodes = c.in-Ok.ensures.items; count = c.in-Ok.ensures.len; room = omega (arith, c.in-Ok.ensures.exact); faithful = λ i below. absurd (omega arith) }

pub seat-requires : goal.seat-requires
seat-requires g c =
    let len = rw (c.roster.ensures, c.deref.ensures) at c.len-size.ensures.value in
    rw c.in-Ok-try_clone.ensures (rw len at c.loop-position-test.true)

pub push_reserved-requires : goal.push_reserved-requires
push_reserved-requires g c = omega (arith, c.loop-position.invariant.count, c.loop-position.invariant.room, c.loop-position-test.true)

pub loop-position-preserved : goal.loop-position-preserved
loop-position-preserved g c =
    let before = c.loop-position.invariant in
    let node = rw c.in-Ok-try_clone.ensures at c.in-Ok-seat.ensures.node in
    record {
      nodes =
          c.push_reserved.ensures.items
          ∙ ap (λ (l : List (Seated g.row.E.Denot g.row.E-Msg.Denot)). l ++ c.in-Ok-seat.node ∷ []) before.nodes
          ∙ started_more c.args.charter.value c.loop-position.position c.in-Ok-seat.node node;
      count = omega (arith, c.push_reserved.ensures.len, before.count);
      room = omega (arith, c.push_reserved.ensures.capacity, before.room);
      faithful = λ i below.
          elim (same_or_not i c.loop-position.position) [
            | inl here ↦ rw (here, ← node) c.in-Ok-seat.ensures.faithful
            | inr differ ↦ before.faithful i (omega arith)
          ];
    }

pub invariant_of-result : goal.invariant_of-result
invariant_of-result g c =
    let len = rw (c.roster.ensures, c.deref.ensures) at c.len-size.ensures.value in
    let ring = rw (c.roster.ensures, c.deref.ensures) at c.len-size.ensures.ring in
    let size : c.loop-position.position ≡ length c.args.charter.value.roster = omega (arith, len, c.loop-position-test.false, c.loop-position.auto.position-end) in
    (started_world _ _ _ c.args.charter.value ring (rw size at c.loop-position.invariant.faithful) _ (length-bits_from _ 0 _) c.loop-position.nodes.items (rw size at c.loop-position.invariant.nodes))

pub returns : goal.returns
returns g c =
    let len = rw (c.roster.ensures, c.deref.ensures) at c.len-size.ensures.value in
    let size : c.loop-position.position ≡ length c.args.charter.value.roster = omega (arith, len, c.loop-position-test.false, c.loop-position.auto.position-end) in
    (ap₂ (λ (l : List (List (Side × Packet g.row.E-Msg.Denot))) (flags : List Bool). record { charter = c.args.charter.value; journals = l; cut = flags })
    (started_journals c.args.charter.value (length c.args.charter.value.roster) c.loop-position.nodes.items (rw size at c.loop-position.invariant.nodes))
    (no_bits _ 0 (2 * length c.args.charter.value.roster) c.empty.ensures))
