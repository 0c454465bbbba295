-- Replaying: the faults with which a replay ends.
use Rattle.std.proofs.Common.{ℕ, Result, Ok, Err}
use Rattle.std.specs.Prelude.{IfErr}
use Rattle.ring_lines.specs.Ends.{End, Reading, Writing}
use Rattle.ring_accept.specs.declared.fault.ProgramFault.{ProgramFault}
use Rattle.ringd.specs.private.Run.{Replayed}
use Rattle.ringd.specs.Run.{IsOfLines}

-- a fault of a replay is one of the lines
pub of_lines : {S V A : Type 0} (reader : End S Reading) (writer : End V Writing) (reads : ℕ) (result : Result A ProgramFault) → Replayed reader writer reads result → IfErr result IsOfLines
of_lines reader writer reads (Ok done) replayed = tt
of_lines reader writer reads (Err told) replayed = (replayed.0, replayed.1)
