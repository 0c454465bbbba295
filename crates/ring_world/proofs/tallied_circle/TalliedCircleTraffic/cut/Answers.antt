-- The link's bit is cleared: nothing is in flight there.
use Rattle.std.proofs.Common.{◌≡◌, ap, refl, sym, ◌∙◌}
use Rattle.ring_world.specs.private.LinkSets.{bit_of}
use Rattle.ring_world.specs.Worlds.{link_place}
use Rattle.ring_world.proofs.Marks.{tally_cut}
use Rattle.ring_world.proofs.tallied_circle.TalliedCircleTraffic.cut.Goals as goal

pub cut-requires : goal.cut-requires
cut-requires g c = rw (← c.self.view_is) at c.requires

pub place_of-requires : goal.place_of-requires
place_of-requires g c = c.cut.ensures.inside

pub put-requires : goal.put-requires
put-requires g c = c.place_of.ensures.inside

pub returns-then-is_closed-clause-sound : goal.returns-then-is_closed-clause-sound
returns-then-is_closed-clause-sound g c = rw c.self.view_is at c.is_closed.ensures.sound

pub returns-clause-sound : goal.returns-clause-sound
returns-clause-sound g c = c.cut.ensures.sound

pub invariant_of-self : goal.invariant_of-self
invariant_of-self g c =
    let place : c.place_of.result ≡ link_place c.args.position c.args.side = c.place_of.ensures.value in
    let inside = rw (← c.self.view_is) at c.requires in
    tally_cut _ _ _ _ _ c.self.inside.ready.words c.put.new.self.words c.args.position c.args.side c.self.invariant inside
    (ap (bit_of c.put.new.self.words) (sym place) ∙ c.put.ensures.here)
    (rw place at c.put.ensures.others) _ c.cut.ensures.cut

pub returns-clause-cuts : goal.returns-clause-cuts
returns-clause-cuts g c =
    let closed = rw c.self.view_is at c.is_closed.ensures.value in
    (rw (sym closed ∙ c.if-is_closed.false) refl, rw c.self.view_is at c.cut.ensures.cut)

pub returns-then-is_closed-clause-cuts : goal.returns-then-is_closed-clause-cuts
returns-then-is_closed-clause-cuts g c =
    let closed = rw c.self.view_is at c.is_closed.ensures.value in
    (rw (sym closed ∙ c.if-is_closed.true) refl, refl)
