-- Causes: the faults if no configuration was found, or there is no listener.
use Rattle.std.proofs.Common.{◌≡◌, ◌≤◌, ℕ, List, Option, length, refl, subst, sym, inl, inr}
use Rattle.std.specs.Borrow.{Bor}
use Rattle.ring_config.specs.Reading.{Spells}
use Rattle.ring_config.specs.declared.config.Config.{Config}
use Rattle.ring_accept.specs.Telling.{closed_line}
use Rattle.ring_accept.specs.declared.fault.ProgramFault.{ProgramFault}
use Rattle.ring_accept.specs.declared.fault.ProgramFault.TheVariants as program
use Rattle.ring_lines.specs.Ends.{Writing}
use Rattle.ringd.proofs.Telling.{not_taken_over, not_taken_up}
use Rattle.ringd.specs.Journal.{IsOfJournal, IsOfTaking}
use Rattle.ringd.specs.Run.{IsOfListening, KeptAt, RanAt, ServedAt, first_line}
use Rattle.ringd.specs.private.Run.{IsOfFile}

-- a text that spells none
pub of_config : (text : List ℕ) → length text ≤ 65536 → ((config : Config) → Spells text config → ⊥) → IsOfFile program.Bad
of_config text short none = inr (refl, record { text = text; short = short; none = none })

module _ {V : Type 0} (gives : V → Writing → V → Type 0) (from : V) (socket : Option (Bor (List ℕ))) where
  -- no configuration was read, or there is no memory for the first line
  pub served_unloaded : (connections : ℕ) (fault : ProgramFault) → IsOfFile fault → (port : ℕ) × ServedAt gives from (first_line port socket) (closed_line connections) fault from
  served_unloaded connections fault (inl (inl unreadable)) = (0, subst (λ (f : ProgramFault). ServedAt gives from (first_line 0 socket) (closed_line connections) f from) (sym unreadable) refl)
  served_unloaded connections fault (inl (inr memory)) = (0, subst (λ (f : ProgramFault). ServedAt gives from (first_line 0 socket) (closed_line connections) f from) (sym memory) refl)
  served_unloaded connections fault (inr bad) = (0, subst (λ (f : ProgramFault). ServedAt gives from (first_line 0 socket) (closed_line connections) f from) (sym bad.0) (refl, bad.1))

  pub served_unsaid : (connections : ℕ) (fault : ProgramFault) → fault ≡ program.NoMemory → (port : ℕ) × ServedAt gives from (first_line port socket) (closed_line connections) fault from
  served_unsaid connections fault memory = (0, subst (λ (f : ProgramFault). ServedAt gives from (first_line 0 socket) (closed_line connections) f from) (sym memory) refl)

  pub ran_unloaded : (fault : ProgramFault) → IsOfFile fault → (port : ℕ) × RanAt gives from (first_line port socket) fault from
  ran_unloaded fault (inl (inl unreadable)) = (0, subst (λ (f : ProgramFault). RanAt gives from (first_line 0 socket) f from) (sym unreadable) refl)
  ran_unloaded fault (inl (inr memory)) = (0, subst (λ (f : ProgramFault). RanAt gives from (first_line 0 socket) f from) (sym memory) refl)
  ran_unloaded fault (inr bad) = (0, subst (λ (f : ProgramFault). RanAt gives from (first_line 0 socket) f from) (sym bad.0) (refl, bad.1))

  pub ran_unsaid : (fault : ProgramFault) → fault ≡ program.NoMemory → (port : ℕ) × RanAt gives from (first_line port socket) fault from
  ran_unsaid fault memory = (0, subst (λ (f : ProgramFault). RanAt gives from (first_line 0 socket) f from) (sym memory) refl)

  pub kept_unloaded : (fault : ProgramFault) → IsOfFile fault → (port : ℕ) × KeptAt gives from (first_line port socket) fault from
  kept_unloaded fault (inl (inl unreadable)) = (0, subst (λ (f : ProgramFault). KeptAt gives from (first_line 0 socket) f from) (sym unreadable) refl)
  kept_unloaded fault (inl (inr memory)) = (0, subst (λ (f : ProgramFault). KeptAt gives from (first_line 0 socket) f from) (sym memory) refl)
  kept_unloaded fault (inr bad) = (0, subst (λ (f : ProgramFault). KeptAt gives from (first_line 0 socket) f from) (sym bad.0) (refl, bad.1))

  pub kept_unsaid : (fault : ProgramFault) → fault ≡ program.NoMemory → (port : ℕ) × KeptAt gives from (first_line port socket) fault from
  kept_unsaid fault memory = (0, subst (λ (f : ProgramFault). KeptAt gives from (first_line 0 socket) f from) (sym memory) refl)

module _ {V : Type 0} (gives : V → Writing → V → Type 0) (from : V) (first : List ℕ) where
  -- there is no listener
  pub served_unlistened : (last : List ℕ) (fault : ProgramFault) → IsOfListening fault → ServedAt gives from first last fault from
  served_unlistened last fault (inl listen) = subst (λ (f : ProgramFault). ServedAt gives from first last f from) (sym listen) refl
  served_unlistened last fault (inr (inl socket)) = subst (λ (f : ProgramFault). ServedAt gives from first last f from) (sym socket.1) refl
  served_unlistened last fault (inr (inr memory)) = subst (λ (f : ProgramFault). ServedAt gives from first last f from) (sym memory) refl

  pub ran_unlistened : (fault : ProgramFault) → IsOfListening fault → RanAt gives from first fault from
  ran_unlistened fault (inl listen) = subst (λ (f : ProgramFault). RanAt gives from first f from) (sym listen) refl
  ran_unlistened fault (inr (inl socket)) = subst (λ (f : ProgramFault). RanAt gives from first f from) (sym socket.1) refl
  ran_unlistened fault (inr (inr memory)) = subst (λ (f : ProgramFault). RanAt gives from first f from) (sym memory) refl

  pub kept_unlistened : (fault : ProgramFault) → IsOfListening fault → KeptAt gives from first fault from
  kept_unlistened fault (inl listen) = subst (λ (f : ProgramFault). KeptAt gives from first f from) (sym listen) refl
  kept_unlistened fault (inr (inl socket)) = subst (λ (f : ProgramFault). KeptAt gives from first f from) (sym socket.1) refl
  kept_unlistened fault (inr (inr memory)) = subst (λ (f : ProgramFault). KeptAt gives from first f from) (sym memory) refl

  -- a journal was not taken up, or not taken over
  pub kept_untaken : (fault : ProgramFault) → IsOfJournal fault → KeptAt gives from first fault from
  kept_untaken = not_taken_up gives from first

  pub kept_not_over : (fault : ProgramFault) → IsOfTaking fault → KeptAt gives from first fault from
  kept_not_over = not_taken_over gives from first
