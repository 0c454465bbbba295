-- One group is cleared after another.
use Rattle.std.proofs.Common.{◌∙◌, ◌+◌, ◌++◌, ◌∷◌, [], ap, append_assoc, drop, refl, subst, sym}
use Rattle.std.proofs.lemmas.List.{drop_all, drop_more}
use Rattle.ring_campaign.specs.Clearing.{ClearsGroups}
use Rattle.ring_campaign.proofs.Cleared.{adds_all, clears_more}
use Rattle.ring_campaign.proofs.caller.Caller.clear_groups.Goals as goal

pub loop-name-preserved : goal.loop-name-preserved
loop-name-preserved g c =
    let names = c.args.names.now in
    let before = c.loop-name.invariant in
    let name = c.name-item.result in
    let next = drop_more names c.loop-name.name-index name c.loop-name-test.true ∙ ap (λ n. n ∷ drop (c.loop-name.name-index + 1) names) (sym c.name-item.is) in
    let one = c.clear_group.ensures.clears in
    record {
      has = c.clear_group.ensures.seat;
      added = before.added ++ one.added;
      gained = one.gained ∙ ap (λ entries. entries ++ one.added) before.gained ∙ append_assoc (g.A.Access.mine c.args.seat.now) before.added one.added;
      completes = λ rest cleared.
          subst (ClearsGroups c.args.self.now.session names) (sym (append_assoc before.added one.added rest))
          (before.completes (one.added ++ rest) (clears_more c.args.self.now.session names c.loop-name.name-index name one.added rest next one.such cleared));
    }

pub returns-clause-clears : goal.returns-clause-clears
returns-clause-clears g c =
    let names = c.args.names.now in
    let before = c.loop-name.invariant in
    let such = ClearsGroups c.args.self.now.session in
    let over = drop_all c.loop-name.name-index names c.loop-name-test.false in
    adds_all (such names) _ _ before.added before.gained (before.completes [] (subst (λ l. such l []) (sym over) refl))
