-- The leaders, term by term.
use Rattle.std.proofs.Common.{◌≡◌, ap, arith, length, map, refl, ◌∙◌, rules, tests}
use Rattle.std.specs.Prelude.{IfOk}
use Rattle.std.proofs.lemmas.List.{length-map}
use Rattle.std.proofs.lemmas.Iterator.{items_from_collect, YieldsList-from_map, YieldsList-from_slice}
use Rattle.ring_terms.proofs.GroupFacts.{leaders_shown}
use Rattle.ring_terms.proofs.group.Group.terms.Goals as goal

pub returns : goal.returns
returns g c =
    let run : IfOk c.collect.result (λ w. w.items ≡ map (λ t. t.leader) c.args.self.now.terms.items) = items_from_collect c.collect.result c.collect.ensures.ran (YieldsList-from_map _ (λ t. t.leader) (YieldsList-from_slice c.args.self.now.terms.items cc) c.map.ensures.closure (λ x r q k. search (rules, tests))) in
    let read : c.in-Ok.leaders.items ≡ map (λ t. t.leader) c.args.self.now.terms.items = rw c.in-Ok.is at run in
    (refl, c.new.ensures ∙ read ∙ leaders_shown c.args.self.now)

pub new-requires : goal.new-requires
new-requires g c =
    let run : IfOk c.collect.result (λ w. w.items ≡ map (λ t. t.leader) c.args.self.now.terms.items) = items_from_collect c.collect.result c.collect.ensures.ran (YieldsList-from_map _ (λ t. t.leader) (YieldsList-from_slice c.args.self.now.terms.items cc) c.map.ensures.closure (λ x r q k. search (rules, tests))) in
    let read : c.in-Ok.leaders.items ≡ map (λ t. t.leader) c.args.self.now.terms.items = rw c.in-Ok.is at run in
    omega (arith, ap length read, length-map c.args.self.now.terms.items (λ t. t.leader), c.requires.short)
