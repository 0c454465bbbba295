use Rattle.std.proofs.Common.{rules}
use Rattle.ring_recovery.proofs.recovery.replay_file.Goals as goal

pub fault_of-requires-clause-some : goal.fault_of-requires-clause-some
fault_of-requires-clause-some c = search rules

pub returns-in_err-lines-clause-err : goal.returns-in_err-lines-clause-err
returns-in_err-lines-clause-err c = search rules
