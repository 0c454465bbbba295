-- A link's bit says whether it is cut.
use Rattle.std.proofs.Common.{◌≡◌, ◌<◌, ◌==◌, ℕ, ap, sym, ◌∙◌, length, arith}
use Rattle.ring_world.specs.private.LinkSets.{bit_of}
use Rattle.ring_world.specs.Worlds.{link_place}
use Rattle.ring_world.proofs.Cuts.{bit_says}
use Rattle.ring_world.proofs.circle.Circle.is_cut.Goals as goal

pub place_of-requires : goal.place_of-requires
place_of-requires g c =
    let inside = rw (← c.self.view_is) at c.requires in
    let short = c.self.invariant.sound.is_ring.short in
    omega (arith, inside, short)

pub returns : goal.returns
returns g c =
    let inside : c.args.position < length c.self.inside.charter.value.roster = rw (← c.self.view_is) at c.requires in
    let place : c.place_of.result ≡ link_place c.args.position c.args.side = c.place_of.ensures.value in
    rw (← c.self.view_is)
    (c.has.ensures
    ∙ ap (λ (n : ℕ). bit_of c.self.inside.cut.words n == 1) place
    ∙ sym (bit_says c.self.inside.cut.words (length c.self.inside.charter.value.roster) c.args.position c.args.side inside))
