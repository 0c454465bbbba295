-- The text of a service with a journal, from its beginning and its end.
use Rattle.std.proofs.Common.{List, ℕ, Result, Ok, Err, inl, inr, refl, subst, sym}
use Rattle.std.specs.Prelude.{IfErr, MatchResult}
use Rattle.ring_lines.specs.Ends.{Writing, Wrote}
use Rattle.ring_accept.specs.declared.fault.ProgramFault.{ProgramFault}
use Rattle.ring_accept.specs.declared.fault.ProgramFault.TheVariants as program
use Rattle.ring_server.specs.Resuming.{ResumedAt}
use Rattle.ring_server.specs.Running.{FirstOrNone}
use Rattle.ring_server.specs.private.Resuming.{IsOfEnd}

module _ {V : Type 0} (gives : V → Writing → V → Type 0) (from to : V) (first : List ℕ) where
  -- a fault before clients were served
  pub begun_at : (fault : ProgramFault) → FirstOrNone gives from first fault to → ResumedAt gives from first fault to
  begun_at program.Thread told = told
  begun_at program.Write told = told
  begun_at program.NoMemory told = told
  begun_at program.Accept told = absurd told
  begun_at program.Read told = absurd told
  begun_at program.Endless told = absurd told
  begun_at program.Unreadable told = absurd told
  begun_at program.Bad told = absurd told
  begun_at program.Listen told = absurd told
  begun_at (program.Journal fault) told = absurd told
  begun_at (program.Socket fault) told = absurd told

  -- the end, once the first line was written
  pub ended_at : {A : Type 0} (answer : Result A ProgramFault) → Wrote gives from first to → IfErr answer IsOfEnd
      → MatchResult answer (λ _. Wrote gives from first to) (λ fault. ResumedAt gives from first fault to)
  ended_at (Ok done) told ends = told
  ended_at (Err fault) told (inl journal) = subst (λ (f : ProgramFault). ResumedAt gives from first f to) (sym journal) (refl, told)
  ended_at (Err fault) told (inr thread) = subst (λ (f : ProgramFault). ResumedAt gives from first f to) (sym thread) (inr told)
