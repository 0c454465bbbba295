-- The list is looked at first, and then the nodes.
use Rattle.std.proofs.Common.{None, sym, ◌∙◌}
use Rattle.std.proofs.lemmas.List.{get_or_past}
use Rattle.ring_world.proofs.Placing.{found_listed, unlisted}
use Rattle.ring_world.proofs.places.Places.find.Goals as goal

pub returns-in_default : goal.returns-in_default
returns-in_default g c = unlisted c.args.nodes.now c.args.self.now.at c.args.position (get_or_past c.args.self.now.at c.args.position None c.in_default.ensures.lookup.3)

pub returns-in_default-listed : goal.returns-in_default-listed
returns-in_default-listed g c = unlisted c.args.nodes.now c.args.self.now.at c.args.position (sym (c.in-Some.ensures.lookup.3.1 None) ∙ c.in_default-listed.is)

pub returns : goal.returns
returns g c =
    found_listed c.args.nodes.now c.args.self.now.at c.args.position c.in-Some-listed.place (sym (c.in-Some.ensures.lookup.3.1 None) ∙ c.in-Some-listed.is) c.get-2.result (λ x. x.now) c.get-2.ensures.lookup.0 c.get-2.ensures.lookup.1
