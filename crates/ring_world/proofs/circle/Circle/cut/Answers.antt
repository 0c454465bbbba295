-- One bit is put, and with it one link is cut.
use Rattle.std.proofs.Common.{ap, sym, ◌∙◌, ◌≡◌, List, Bool, length, arith}
use Rattle.ring_world.specs.private.LinkSets.{bit_of}
use Rattle.ring_world.specs.private.Worlds.{journals_of}
use Rattle.ring_world.specs.Worlds.{link_place}
use Rattle.ring_world.proofs.Cuts.{link_put, world_cut}
use Rattle.ring_world.proofs.circle.Circle.cut.Goals as goal

pub place_of-requires : goal.place_of-requires
place_of-requires g c =
    let inside = rw (← c.self.view_is) at c.requires in
    let short = c.self.invariant.sound.is_ring.short in
    omega (arith, inside, short)

pub put-requires : goal.put-requires
put-requires g c = c.place_of.ensures.inside

pub returns-clause-inside : goal.returns-clause-inside
returns-clause-inside g c =
    let inside = rw (← c.self.view_is) at c.requires in
    omega (arith, inside, c.self.invariant.sound.is_ring.short)

pub invariant_of-self : goal.invariant_of-self
invariant_of-self g c =
    let place : c.place_of.result ≡ link_place c.args.position c.args.side = c.place_of.ensures.value in
    let put = link_put c.self.inside.cut.words c.put.new.self.words (length c.self.inside.charter.value.roster) c.args.position c.args.side (ap (bit_of c.put.new.self.words) (sym place) ∙ c.put.ensures.here) (rw place at c.put.ensures.others) in
    rw put (world_cut _ _ _ _ _ _ c.args.position c.args.side c.self.invariant)

pub returns-clause-cut : goal.returns-clause-cut
returns-clause-cut g c =
    let place : c.place_of.result ≡ link_place c.args.position c.args.side = c.place_of.ensures.value in
    let put = link_put c.self.inside.cut.words c.put.new.self.words (length c.self.inside.charter.value.roster) c.args.position c.args.side (ap (bit_of c.put.new.self.words) (sym place) ∙ c.put.ensures.here) (rw place at c.put.ensures.others) in
    rw (← c.self.view_is) (ap (λ (flags : List Bool). record { charter = c.self.inside.charter.value; journals = journals_of c.self.inside.nodes.items; cut = flags }) put)

pub returns-clause-sound : goal.returns-clause-sound
returns-clause-sound g c = (invariant_of-self g c).sound
