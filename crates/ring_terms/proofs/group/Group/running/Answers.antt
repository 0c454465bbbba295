-- The last term has the charter of the last term of this group.
use Rattle.std.proofs.Common.{ap, refl, sym, ◌∙◌, rules}
use Rattle.std.specs.Prelude.{Some}
use Rattle.ring_terms.proofs.GroupFacts.{last_chartered, last_shown}
use Rattle.ring_terms.proofs.group.Group.running.Goals as goal

pub returns : goal.returns
returns g c =
    let shown = last_shown g.E.RingElection.winner c.args.self.now.name c.args.self.now c.requires c.in-Some.term.now (search rules) in
    let chartered = last_chartered g.E.RingElection.winner c.args.self.now.name c.args.self.now c.requires c.in-Some.term.now (search rules) in
    (rw shown refl, chartered ∙ ap (λ a. Some a.value) (sym c.charter.ensures))
