use Rattle.std.proofs.lemmas.Grind.{common_steps}
use Rattle.std.proofs.Common.{arith}
use Rattle.ring_etcd.proofs.etcd.Etcd.put_once.Goals as goal

pub returns-in-Ours-clause-ok : goal.returns-in-Ours-clause-ok
returns-in-Ours-clause-ok g c = grind (arith, common_steps)
