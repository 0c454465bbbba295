-- A failed read becomes the program's failed read.
use Rattle.std.proofs.Common.{rules}
use Rattle.ring_accept.proofs.fault.ProgramFaultFromLineFault.from.Goals as goal

pub returns-in-Read : goal.returns-in-Read
returns-in-Read c = search rules
