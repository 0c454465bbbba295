-- A fault ends the program with its status.
use Rattle.std.proofs.Common.{sym}
use Rattle.std.proofs.lemmas.Fn.{gave_at}
use Rattle.command_line.proofs.ending.ended_with.Goals as goal

pub returns-in-Err : goal.returns-in-Err
returns-in-Err g c = rw c.in-Err.is (gave_at g.S.FnOnce c.status.ensures (sym c.from.ensures))
