-- Clauses of inner functions that listen.
use Rattle.std.specs.Prelude.{◌≡◌, ℕ, List}
use Rattle.ring_lines.specs.Ends.{Writing, Wrote, WroteFront}
use Rattle.ring_accept.specs.declared.fault.ProgramFault.{ProgramFault}
use Rattle.ring_accept.specs.declared.fault.ProgramFault.TheVariants.{Accept, NoMemory, Thread, Write}

-- The text that was written at a fault after the service was made. It is the first line, or a
-- prefix of it at a failed write. If an allocation failed, it is nothing.
abbrev pub FirstAt : {V : Type 0} → (V → Writing → V → Type 0) → V → List ℕ → ProgramFault → V
    → Type 0
FirstAt gives from first Accept to = Wrote gives from first to
FirstAt gives from first Thread to = Wrote gives from first to
FirstAt gives from first Write to = WroteFront gives from first to
FirstAt gives from first NoMemory to = to ≡ from
FirstAt gives from first _ to = ⊥
