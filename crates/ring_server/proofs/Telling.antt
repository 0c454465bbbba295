-- Two lines, one after the other, and the text if a fault came between.
use Rattle.std.proofs.Common.{◌≡◌, ◌++◌, List, ℕ, Result, Ok, Err, inr, subst, sym}
use Rattle.std.specs.Prelude.{MatchResult}
use Rattle.ring_lines.specs.Ends.{Writing, Wrote, WroteFront}
use Rattle.ring_lines.specs.laws.Sequences.{wrote_front, wrote_next, wrote_then}
use Rattle.ring_accept.specs.declared.fault.ProgramFault.{ProgramFault}
use Rattle.ring_accept.specs.declared.fault.ProgramFault.TheVariants as program
use Rattle.ring_server.specs.Listening.{BothAt}
use Rattle.ring_server.specs.private.Listening.{FirstAt}

module _ {V : Type 0} (gives : V → Writing → V → Type 0) (from to : V) (first last : List ℕ) where
  -- a fault while the service ran, as one of the whole
  pub both_at : (fault : ProgramFault) → FirstAt gives from first fault to → BothAt gives from first last fault to
  both_at program.Accept told = told
  both_at program.Thread told = inr told
  both_at program.Write told = wrote_front last told
  both_at program.Read told = absurd told
  both_at program.Endless told = absurd told
  both_at program.NoMemory told = told
  both_at program.Unreadable told = absurd told
  both_at program.Bad told = absurd told
  both_at program.Listen told = absurd told
  both_at (program.Journal fault) told = absurd told
  both_at (program.Socket fault) told = absurd told

  -- the last line, after the first
  pub both_told : {A : Type 0} (mid : V) (answer : Result A ProgramFault) → Wrote gives from first mid → MatchResult answer (λ _. Wrote gives mid last to) (λ fault. (fault ≡ program.Write) × WroteFront gives mid last to)
      → MatchResult answer (λ _. Wrote gives from (first ++ last) to) (λ fault. BothAt gives from first last fault to)
  both_told mid (Ok done) told last_told = wrote_then told last_told
  both_told mid (Err fault) told last_told = subst (λ (f : ProgramFault). BothAt gives from first last f to) (sym last_told.0) (wrote_next told last_told.1)
