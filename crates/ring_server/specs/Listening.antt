-- The lines on standard output at a fault of a service for a given number of clients.
use Rattle.std.specs.Prelude.{◌≡◌, ◌⊎◌, ℕ, List, ◌++◌}
use Rattle.ring_lines.specs.Ends.{Writing, Wrote, WroteFront}
use Rattle.ring_accept.specs.declared.fault.ProgramFault.{ProgramFault}
use Rattle.ring_accept.specs.declared.fault.ProgramFault.TheVariants.{Accept, NoMemory, Thread, Write}

-- The text that was written at a fault of the whole. At a failed accept it is the first line. If a
-- thread could not be started, it is the first line or nothing. At a failed write it is a prefix of
-- both lines. If an allocation failed, it is nothing. No other fault comes.
abbrev pub BothAt : {V : Type 0} → (V → Writing → V → Type 0) → V → List ℕ → List ℕ → ProgramFault
    → V → Type 0
BothAt gives from first last Accept to = Wrote gives from first to
BothAt gives from first last Thread to = (to ≡ from) ⊎ Wrote gives from first to
BothAt gives from first last Write to = WroteFront gives from (first ++ last) to
BothAt gives from first last NoMemory to = to ≡ from
BothAt gives from first last _ to = ⊥
