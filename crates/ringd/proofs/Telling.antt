-- The text of a service, as the text of `serve` and `run`.
use Rattle.std.proofs.Common.{◌≡◌, ◌++◌, List, ℕ, Result, Ok, Err, inl, inr, refl, subst, sym}
use Rattle.std.specs.Prelude.{MatchResult}
use Rattle.ring_lines.specs.Ends.{Writing, Wrote}
use Rattle.ring_accept.specs.declared.fault.JournalFault.{JournalFault}
use Rattle.ring_accept.specs.declared.fault.JournalFault.TheVariants as journal
use Rattle.ring_accept.specs.declared.fault.ProgramFault.{ProgramFault}
use Rattle.ring_accept.specs.declared.fault.ProgramFault.TheVariants as program
use Rattle.ring_server.specs.Listening.{BothAt}
use Rattle.ring_server.specs.Resuming.{ResumedAt}
use Rattle.ring_server.specs.Running.{FirstOrNone}
use Rattle.ringd.specs.Journal.{IsOfJournal, IsOfTaking}
use Rattle.ringd.specs.Run.{KeptAt, RanAt, ServedAt}
use Rattle.ringd.specs.private.Run.{IsCauseOf}

module _ {V : Type 0} (gives : V → Writing → V → Type 0) (from to : V) (first last : List ℕ) where
  -- a fault of the whole, as one of `serve`
  pub served_at : (fault : ProgramFault) → BothAt gives from first last fault to → ServedAt gives from first last fault to
  served_at program.Accept told = told
  served_at program.Thread told = told
  served_at program.Write told = told
  served_at program.NoMemory told = told
  served_at program.Read told = absurd told
  served_at program.Endless told = absurd told
  served_at program.Unreadable told = absurd told
  served_at program.Bad told = absurd told
  served_at program.Listen told = absurd told
  served_at (program.Journal fault) told = absurd told
  served_at (program.Socket fault) told = absurd told

  -- the text of a whole, as that of `serve`
  pub all_served : {A : Type 0} (answer : Result A ProgramFault) → MatchResult answer (λ _. Wrote gives from (first ++ last) to) (λ fault. BothAt gives from first last fault to)
      → MatchResult answer (λ _. Wrote gives from (first ++ last) to) (λ fault. ServedAt gives from first last fault to)
  all_served (Ok done) told = told
  all_served (Err fault) told = served_at fault told

-- the text, for some port
module _ {V A : Type 0} (gives : V → Writing → V → Type 0) (from to : V) (line : ℕ → List ℕ) (last first : List ℕ) (port : ℕ) (is : first ≡ line port) where
  pub served_told : (answer : Result A ProgramFault) → MatchResult answer (λ _. Wrote gives from (first ++ last) to) (λ fault. ServedAt gives from first last fault to)
      → MatchResult answer (λ _. (p : ℕ) × Wrote gives from (line p ++ last) to) (λ fault. (p : ℕ) × ServedAt gives from (line p) last fault to)
  served_told (Ok done) told = (port, subst (λ (text : List ℕ). Wrote gives from (text ++ last) to) is told)
  served_told (Err fault) told = (port, subst (λ (text : List ℕ). ServedAt gives from text last fault to) is told)

-- a fault of the whole, as one of `run`
module _ {V : Type 0} (gives : V → Writing → V → Type 0) (from : V) (first : List ℕ) where
  pub ran_at : (to : V) (fault : ProgramFault) → FirstOrNone gives from first fault to → RanAt gives from first fault to
  ran_at to program.Thread told = told
  ran_at to program.Write told = told
  ran_at to program.NoMemory told = told
  ran_at to program.Accept told = absurd told
  ran_at to program.Read told = absurd told
  ran_at to program.Endless told = absurd told
  ran_at to program.Unreadable told = absurd told
  ran_at to program.Bad told = absurd told
  ran_at to program.Listen told = absurd told
  ran_at to (program.Journal fault) told = absurd told
  ran_at to (program.Socket fault) told = absurd told

  pub all_ran : {A : Type 0} (to : V) (answer : Result A ProgramFault) → MatchResult answer (λ _. Wrote gives from first to) (λ fault. FirstOrNone gives from first fault to)
      → MatchResult answer (λ _. Wrote gives from first to) (λ fault. RanAt gives from first fault to)
  all_ran to (Ok done) told = told
  all_ran to (Err fault) told = ran_at to fault told

module _ {V A : Type 0} (gives : V → Writing → V → Type 0) (from to : V) (line : ℕ → List ℕ) (first : List ℕ) (port : ℕ) (is : first ≡ line port) where
  pub ran_told : (answer : Result A ProgramFault) → MatchResult answer (λ _. Wrote gives from first to) (λ fault. RanAt gives from first fault to)
      → MatchResult answer (λ _. (p : ℕ) × Wrote gives from (line p) to) (λ fault. (p : ℕ) × RanAt gives from (line p) fault to)
  ran_told (Ok done) told = (port, subst (λ (text : List ℕ). Wrote gives from text to) is told)
  ran_told (Err fault) told = (port, subst (λ (text : List ℕ). RanAt gives from text fault to) is told)

-- a fault of the whole, as one of `run` with a journal
module _ {V : Type 0} (gives : V → Writing → V → Type 0) (from : V) (first : List ℕ) where
  pub kept_at : (to : V) (fault : ProgramFault) → ResumedAt gives from first fault to → KeptAt gives from first fault to
  kept_at to (program.Journal journal.Failed) told = inr told.1
  kept_at to (program.Journal journal.InUse) told = absurd (cc)
  kept_at to (program.Journal journal.Unreadable) told = absurd (cc)
  kept_at to (program.Journal journal.NotAFile) told = absurd (cc)
  kept_at to (program.Journal (journal.Bad at)) told = absurd (cc)
  kept_at to (program.Journal journal.Version) told = absurd (cc)
  kept_at to (program.Journal journal.Lives) told = absurd (cc)
  kept_at to (program.Journal journal.TakenOver) told = absurd (cc)
  kept_at to (program.Journal journal.NoAnswer) told = absurd (cc)
  kept_at to program.Thread told = told
  kept_at to program.Write told = told
  kept_at to program.NoMemory told = told
  kept_at to program.Accept told = absurd told
  kept_at to program.Read told = absurd told
  kept_at to program.Endless told = absurd told
  kept_at to program.Unreadable told = absurd told
  kept_at to program.Bad told = absurd told
  kept_at to program.Listen told = absurd told
  kept_at to (program.Socket fault) told = absurd told

  -- a fault of taking up a journal comes before any text
  pub not_taken_up : (fault : ProgramFault) → IsOfJournal fault → KeptAt gives from first fault from
  not_taken_up fault (inl journals) = subst (λ (f : ProgramFault). KeptAt gives from first f from) (sym journals.1) (nothing journals.0)
    where
      nothing : (why : JournalFault) → KeptAt gives from first (program.Journal why) from
      nothing journal.Failed = inl refl
      nothing journal.InUse = refl
      nothing journal.Unreadable = refl
      nothing journal.NotAFile = refl
      nothing (journal.Bad at) = refl
      nothing journal.Version = refl
      nothing journal.Lives = refl
      nothing journal.TakenOver = inl refl
      nothing journal.NoAnswer = refl
  not_taken_up fault (inr memory) = subst (λ (f : ProgramFault). KeptAt gives from first f from) (sym memory) refl

  -- and so does one of taking over a journal in etcd
  pub not_taken_over : (fault : ProgramFault) → IsOfTaking fault → KeptAt gives from first fault from
  not_taken_over fault (inl up) = not_taken_up fault up
  not_taken_over fault (inr thread) = subst (λ (f : ProgramFault). KeptAt gives from first f from) (sym thread) (inl refl)

  -- a journal that failed was taken over
  pub kept_cause : (to : V) (fault said : ProgramFault) → IsCauseOf fault said → KeptAt gives from first fault to → KeptAt gives from first said to
  kept_cause to fault said (inl same) told = subst (λ (f : ProgramFault). KeptAt gives from first f to) (sym same) told
  kept_cause to fault said (inr over) told =
      subst (λ (f : ProgramFault). KeptAt gives from first f to) (sym over.1)
      (subst (λ (f : ProgramFault). KeptAt gives from first f to) over.0 told)

  pub all_kept : {A : Type 0} (to : V) (answer : Result A ProgramFault) → MatchResult answer (λ _. Wrote gives from first to) (λ fault. ResumedAt gives from first fault to)
      → MatchResult answer (λ _. Wrote gives from first to) (λ fault. KeptAt gives from first fault to)
  all_kept to (Ok done) told = told
  all_kept to (Err fault) told = kept_at to fault told

module _ {V A : Type 0} (gives : V → Writing → V → Type 0) (from to : V) (line : ℕ → List ℕ) (first : List ℕ) (port : ℕ) (is : first ≡ line port) where
  pub kept_told : (answer : Result A ProgramFault) → MatchResult answer (λ _. Wrote gives from first to) (λ fault. KeptAt gives from first fault to)
      → MatchResult answer (λ _. (p : ℕ) × Wrote gives from (line p) to) (λ fault. (p : ℕ) × KeptAt gives from (line p) fault to)
  kept_told (Ok done) told = (port, subst (λ (text : List ℕ). Wrote gives from text to) is told)
  kept_told (Err fault) told = (port, subst (λ (text : List ℕ). KeptAt gives from text fault to) is told)
