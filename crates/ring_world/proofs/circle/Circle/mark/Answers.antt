-- The link's bit is put as what is in flight on it.
use Rattle.std.proofs.Common.{◌≡◌, ℕ, cond, nat_lt, sym, ap, ◌∙◌, arith}
use Rattle.ring_world.specs.private.LinkSets.{bit_of}
use Rattle.ring_world.specs.Worlds.{is_cut, link_place, on_link}
use Rattle.ring_world.proofs.Cuts.{mark_by_length}
use Rattle.ring_world.proofs.Marks.{one_marked}
use Rattle.ring_world.proofs.circle.Circle.mark.Goals as goal

pub returns : goal.returns
returns g c =
    let world = c.args.self.now in
    let stands = on_link g.E.RingElection.table world c.args.position c.args.side in
    let new = c.put.new.self.words in
    let place : c.place_of.result ≡ link_place c.args.position c.args.side = c.place_of.ensures.value in
    one_marked g.E.RingElection.table world c.args.ready.now.words new c.args.position c.args.side c.requires.inside
    (record {
      bit =
          ap (bit_of new) (sym place)
          ∙ c.put.ensures.here
          ∙ ap (λ (n : ℕ). cond (nat_lt 0 n) 1 0) c.waiting-here.ensures.value
          ∙ mark_by_length (is_cut world c.args.position c.args.side) stands c.requires.uncut;
      few = omega (arith, c.waiting-here.ensures.value, c.waiting-here.type_inv);
    })
    (rw place at c.put.ensures.others)
