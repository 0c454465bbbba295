use Rattle.std.proofs.Common.{refl, subst}
use Rattle.ring_any.specs.declared.any.Any.{Any}
use Rattle.ring_change.specs.declared.change.Change.{Change}
use Rattle.ring_recovery.specs.Damage.{MayCome}
use Rattle.ring_recovery.proofs.Refusing.{refused_create, refused_join, refused_leave, refused_start}
use Rattle.ring_recovery.proofs.replay.replay.Goals as goal

pub returns-in-Create-clause-refused : goal.returns-in-Create-clause-refused
returns-in-Create-clause-refused c = λ failed may. refused_create _ _ _ (c.redo.ensures.refused failed _ refl) (subst (λ (change : Change Any). MayCome c.args.table.now.book change) c.in-Create.is may)

pub returns-in-Join-clause-refused : goal.returns-in-Join-clause-refused
returns-in-Join-clause-refused c = λ failed may. refused_join _ _ _ (c.redo-in-Join.ensures.refused failed _ refl) (subst (λ (change : Change Any). MayCome c.args.table.now.book change) c.in-Join.is may)

pub returns-in-Leave-clause-refused : goal.returns-in-Leave-clause-refused
returns-in-Leave-clause-refused c = λ failed may. refused_leave _ _ _ (c.redo-in-Leave.ensures.refused failed _ refl) (subst (λ (change : Change Any). MayCome c.args.table.now.book change) c.in-Leave.is may)

pub returns-in-Start-clause-refused : goal.returns-in-Start-clause-refused
returns-in-Start-clause-refused c = λ failed may. refused_start _ _ (c.redo-in-Start.ensures.refused failed _ refl) (subst (λ (change : Change Any). MayCome c.args.table.now.book change) c.in-Start.is may)
