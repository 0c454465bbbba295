-- The node is the one of its position, and both sides are looked at.
use Rattle.std.proofs.Common.{refl}
use Rattle.ring_id.specs.declared.side.Side.TheVariants.{Left, Right}
use Rattle.ring_world.proofs.Placing.{listed_alone, unlisted_none}
use Rattle.ring_world.proofs.Settlements.{settled_both, settled_each}
use Rattle.ring_world.proofs.settlement.is_settled_at.Goals as goal

pub is_fed-requires-clause-inside : goal.is_fed-requires-clause-inside
is_fed-requires-clause-inside g c =
    let alone = listed_alone _ _ _ c.requires.placed c.args.position c.in-Some.node.now c.in-Some.ensures in
    rw alone.position_is c.requires.inside

pub is_fed-requires-then-is_fed-clause-inside : goal.is_fed-requires-then-is_fed-clause-inside
is_fed-requires-then-is_fed-clause-inside g c =
    let alone = listed_alone _ _ _ c.requires.placed c.args.position c.in-Some.node.now c.in-Some.ensures in
    rw alone.position_is c.requires.inside

pub returns-in_default : goal.returns-in_default
returns-in_default g c =
    (λ never. cc, λ settled. absurd (unlisted_none _ _ _ c.requires.placed c.args.position c.in_default.ensures settled.node settled.alone))

pub returns-then-is_fed : goal.returns-then-is_fed
returns-then-is_fed g c =
    let node = c.in-Some.node.now in
    let alone = listed_alone _ _ _ c.requires.placed c.args.position node c.in-Some.ensures in (
      λ right. settled_both g.E.RingElection.table c.args.charter.now c.args.nodes.now c.args.position node alone (c.if-is_fed.ensures.0 refl) (c.is_fed-then-is_fed.ensures.0 right),
      λ settled. c.is_fed-then-is_fed.ensures.1 (settled_each g.E.RingElection.table c.args.charter.now c.args.nodes.now c.args.position node alone settled Right),
    )

pub returns-else-is_fed : goal.returns-else-is_fed
returns-else-is_fed g c =
    let node = c.in-Some.node.now in
    let alone = listed_alone _ _ _ c.requires.placed c.args.position node c.in-Some.ensures in (
      λ never. let fails = c.if-is_fed.false in cc,
      λ settled. c.is_fed.ensures.1 (settled_each g.E.RingElection.table c.args.charter.now c.args.nodes.now c.args.position node alone settled Left),
    )
