use Rattle.std.proofs.Common.{rules, ◌≡◌, ◌∷◌, [], ◌++◌, sym, subst}
use Rattle.std.specs.Prelude.{Some}
use Rattle.std.proofs.lemmas.List.Elements.{All-pop}
use Rattle.test_cases.proofs.table.grounds.open.Goals as goal

-- both callers' seats are of the access that the service serves
pub invariant_of-result : goal.invariant_of-result
invariant_of-result g c =
    let same : c.in-Ok.service ≡ c.args.access = search rules in
    let first : c.args.seats.items ≡ c.pop.new.self.items ++ c.expect-one.result ∷ [] = search rules in
    let second : c.pop.new.self.items ≡ c.pop-2.new.self.items ++ c.expect-other.result ∷ [] = search rules in
    let one = All-pop (g.A.Access.has_seat c.args.access) _ _ (Some c.expect-one.result) first c.requires.seats in
    let other = All-pop (g.A.Access.has_seat c.args.access) _ _ (Some c.expect-other.result) second one.0 in
    subst (λ access. g.A.Access.has_seat access c.expect-one.result × g.A.Access.has_seat access c.expect-other.result) (sym same) (one.1, other.1)
