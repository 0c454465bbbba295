-- A refusal ends the program with 1.
use Rattle.std.proofs.Common.{rules}
use Rattle.ringctl.proofs.fault.Fault.status.Goals as goal

pub returns-in-Refused : goal.returns-in-Refused
returns-in-Refused c = search rules
