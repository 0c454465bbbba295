-- The sender is the one node of its position, and each kind is compared by itself.
use Rattle.std.proofs.Common.{refl}
use Rattle.ring_world.specs.declared.packet_kind.PacketKind.TheVariants.{Message, Announcement}
use Rattle.ring_world.proofs.Placing.{listed_alone, unlisted_none}
use Rattle.ring_world.proofs.Settlements.{fed_both, fed_each}
use Rattle.ring_world.proofs.settlement.is_fed.Goals as goal

pub returns-in_default : goal.returns-in_default
returns-in_default g c =
    let position = rw (c.roster.ensures, c.position.ensures.value) at c.neighbour-position.ensures.value in
    let none = unlisted_none _ _ _ c.requires.placed _ (rw position at c.in_default.ensures) in
    (λ never. cc, λ fed. absurd (none fed.sender fed.alone))

pub returns-then-has_taken : goal.returns-then-has_taken
returns-then-has_taken g c =
    let position = rw (c.roster.ensures, c.position.ensures.value) at c.neighbour-position.ensures.value in
    let alone = listed_alone _ _ _ c.requires.placed _ c.in-Some.sender.now (rw position at c.in-Some.ensures) in (
      λ announcements. fed_both g.E.RingElection.table c.args.charter.now c.args.nodes.now c.args.node.now c.args.side c.in-Some.sender.now alone (c.if-has_taken.ensures.0 refl) (c.has_taken-then-has_taken.ensures.0 announcements),
      λ fed. c.has_taken-then-has_taken.ensures.1 (fed_each g.E.RingElection.table c.args.charter.now c.args.nodes.now c.args.node.now c.args.side c.in-Some.sender.now alone fed Announcement),
    )

pub returns-else-has_taken : goal.returns-else-has_taken
returns-else-has_taken g c =
    let position = rw (c.roster.ensures, c.position.ensures.value) at c.neighbour-position.ensures.value in
    let alone = listed_alone _ _ _ c.requires.placed _ c.in-Some.sender.now (rw position at c.in-Some.ensures) in (
      λ never. let fails = c.if-has_taken.false in cc,
      λ fed. c.has_taken.ensures.1 (fed_each g.E.RingElection.table c.args.charter.now c.args.nodes.now c.args.node.now c.args.side c.in-Some.sender.now alone fed Message),
    )
