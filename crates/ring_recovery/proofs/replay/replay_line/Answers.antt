use Rattle.std.proofs.Common.{◌∙◌, subst, sym, rules}
use Rattle.ring_any.specs.declared.any.Any.{Any}
use Rattle.ring_change.specs.declared.change.Change.{Change}
use Rattle.ring_recovery.specs.Damage.{MayCome}
use Rattle.ring_recovery.proofs.Spelling.{one_marked}
use Rattle.ring_recovery.proofs.replay.replay_line.Goals as goal

pub returns-in-Some-clause-refused : goal.returns-in-Some-clause-refused
returns-in-Some-clause-refused c = λ failed change legal same may.
    let marked = c.in-Some.ensures.some in
    let one = one_marked c.one_change.ensures.changes _ change c.in-Some.change legal marked.legal (sym same ∙ marked.same) in
    c.replay.ensures.refused failed (subst (λ (x : Change Any). MayCome c.args.table.now.book x) one may)

pub returns-in-None-clause-ok : goal.returns-in-None-clause-ok
returns-in-None-clause-ok c = search rules
