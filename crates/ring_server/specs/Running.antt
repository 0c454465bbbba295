-- The line on standard output at a fault of a service without an end.
use Rattle.std.specs.Prelude.{◌≡◌, ◌⊎◌, ℕ, List}
use Rattle.ring_lines.specs.Ends.{Writing, Wrote, WroteFront}
use Rattle.ring_accept.specs.declared.fault.ProgramFault.{ProgramFault}
use Rattle.ring_accept.specs.declared.fault.ProgramFault.TheVariants.{NoMemory, Thread, Write}

-- The text that was written if the service could not begin. If a thread could not be started, it is
-- the first line or nothing. At a failed write it is a prefix of the line. If an allocation failed,
-- it is nothing. No other fault comes.
abbrev pub FirstOrNone : {V : Type 0} → (V → Writing → V → Type 0) → V → List ℕ → ProgramFault → V
    → Type 0
FirstOrNone gives from first Thread to = (to ≡ from) ⊎ Wrote gives from first to
FirstOrNone gives from first Write to = WroteFront gives from first to
FirstOrNone gives from first NoMemory to = to ≡ from
FirstOrNone gives from first _ to = ⊥
