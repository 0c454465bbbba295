use Rattle.std.proofs.lemmas.Grind.{common_steps}
use Rattle.std.proofs.Common.{arith}
use Rattle.ring_recovery.proofs.book_changes.group.add_joins.Goals as goal

pub loop-member-preserved : goal.loop-member-preserved
loop-member-preserved g c = grind (arith, common_steps)
