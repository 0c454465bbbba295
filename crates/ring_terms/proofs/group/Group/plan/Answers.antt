-- The next charter, if there are members and one more term is allowed.
use Rattle.std.proofs.Common.{◌≡◌, ◌+◌, ◌<◌, ◌==◌, false, length, vec_len, ap, refl, sym, ◌∙◌, arith}
use Rattle.std.proofs.lemmas.List.{length-map}
use Rattle.ring_terms.specs.Books.{group_view, term_view}
use Rattle.ring_terms.proofs.GroupFacts.{allowed_start}
use Rattle.ring_terms.proofs.group.Group.plan.Goals as goal

pub returns : goal.returns
returns g c =
    let terms = length-map c.args.self.now.terms.items (term_view {E = g.row.E.Denot}) in
    let numbered : c.in-Some.term ≡ length (group_view c.args.self.now).terms + 1 = omega (arith, terms, c.in-Some.ensures.value) in
    let members : length c.args.self.now.members.items ≡ vec_len c.args.self.now.members = omega arith in
    let some : (length (group_view c.args.self.now).members == 0) ≡ false = ap (λ n. n == 0) members ∙ sym c.is_empty.ensures ∙ c.if-is_empty.false in
    let short : length (group_view c.args.self.now).terms < 1000 = omega (arith, terms, (c.in-Some.ensures.there.0 refl).1) in (
      allowed_start (group_view c.args.self.now) some short,
      c.in-Ok-new.ensures ∙ (λ j. record { group = c.args.self.now.name; term = numbered j; algorithm = c.args.self.now.algorithm; roster = c.in-Ok.ensures j }),
    )
