-- The last term's ring is shared if it is the ring of the members.
use Rattle.std.proofs.Common.{◌≡◌, ◌∙◌, ℕ, List, IfOk, ap, rules, subst}
use Rattle.ring_node.specs.declared.charter.Charter.{Charter}
use Rattle.ring_terms.proofs.group.Group.ring.Goals as goal

pub returns-in-Some : goal.returns-in-Some
returns-in-Some g c =
    let same : c.in-Some.term.now.charter.value.roster ≡ c.args.self.now.members.items = search rules in
    let shared : c.roster-in-Some.result.now ≡ c.args.self.now.members.items =
    c.roster-in-Some.ensures ∙ ap (λ (charter : Charter g.row.E.Denot). charter.roster) (c.deref-in-Some.ensures ∙ ap (λ arc. arc.value) c.charter-in-Some.ensures) ∙ same in
    subst (λ (members : List ℕ). IfOk c.shared.result (λ (ring : List ℕ). ring ≡ members)) shared c.shared.ensures
