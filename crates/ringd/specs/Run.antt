-- The faults of `replay`, and the text of `serve` and `run`, from their file to their end.
use Rattle.std.specs.Prelude.{◌≡◌, ◌≤◌, ◌⊎◌, List, ℕ, None, Option, Some, length}
use Rattle.std.specs.Borrow.{Bor}
use Rattle.ring_config.specs.Reading.{Spells}
use Rattle.ring_config.specs.declared.config.Config.{Config}
use Rattle.ring_lines.specs.declared.answers.LineFault.{LineFault}
use Rattle.ring_lines.specs.Ends.{Writing, Wrote}
use Rattle.ring_accept.specs.Faults.{told_as}
use Rattle.ring_accept.specs.declared.fault.ProgramFault.{ProgramFault}
use Rattle.ring_accept.specs.declared.fault.ProgramFault.TheVariants.{Bad, Journal, Listen, NoMemory, Socket, Unreadable}
use Rattle.ring_accept.specs.declared.fault.JournalFault.TheVariants.{Failed, TakenOver}
use Rattle.ring_accept.specs.declared.fault.SocketFault.{SocketFault}
use Rattle.ring_accept.specs.Telling.{listening_at, listening_line}
use Rattle.ring_server.specs.Listening.{BothAt}
use Rattle.ring_server.specs.Running.{FirstOrNone}

-- the first line of a service for sessions: with the path of its socket if there is one, otherwise
-- with its port
abbrev pub first_line : ℕ → Option (Bor (List ℕ)) → List ℕ
first_line port None = listening_line port
first_line port (Some path) = listening_at path.now

-- a fault of listening: a port or a path cannot be listened on, a path is taken, or an allocation
-- failed
abbrev pub IsOfListening : ProgramFault → Type 0
IsOfListening fault =
    (fault ≡ Listen) ⊎ ((why : SocketFault) × (fault ≡ Socket why)) ⊎ (fault ≡ NoMemory)

-- a fault of reading lines, of writing replies or of an allocation
abbrev pub IsOfLines : ProgramFault → Type 0
IsOfLines told = (fault : LineFault) × (told ≡ told_as fault)

-- Some text that is no longer than a configuration may be spells none.
pub record SpellsNone : Type 0 where
  pub text : List ℕ
  pub short : length text ≤ 65536
  pub none : (config : Config) → Spells text config → ⊥

-- The text that was written at a fault of `serve`: nothing before there is a listener, and then
-- that of `BothAt`. A bad configuration was a text that spells none.
abbrev pub ServedAt : {V : Type 0} → (V → Writing → V → Type 0) → V → List ℕ → List ℕ → ProgramFault
    → V → Type 0
ServedAt gives from first last Unreadable to = to ≡ from
ServedAt gives from first last Bad to = (to ≡ from) × SpellsNone
ServedAt gives from first last Listen to = to ≡ from
ServedAt gives from first last (Socket why) to = to ≡ from
ServedAt gives from first last fault to = BothAt gives from first last fault to

-- The text that was written at a fault of `run`, in the same way.
abbrev pub RanAt : {V : Type 0} → (V → Writing → V → Type 0) → V → List ℕ → ProgramFault → V
    → Type 0
RanAt gives from first Unreadable to = to ≡ from
RanAt gives from first Bad to = (to ≡ from) × SpellsNone
RanAt gives from first Listen to = to ≡ from
RanAt gives from first (Socket why) to = to ≡ from
RanAt gives from first fault to = FirstOrNone gives from first fault to

-- The text that was written at a fault of `run` with a journal. If the journal failed or was taken
-- over, it is the first line or nothing. At each other fault of the journal it is nothing. Else it
-- is that of `RanAt`.
abbrev pub KeptAt : {V : Type 0} → (V → Writing → V → Type 0) → V → List ℕ → ProgramFault → V
    → Type 0
KeptAt gives from first (Journal Failed) to = (to ≡ from) ⊎ Wrote gives from first to
KeptAt gives from first (Journal TakenOver) to = (to ≡ from) ⊎ Wrote gives from first to
KeptAt gives from first (Journal why) to = to ≡ from
KeptAt gives from first fault to = RanAt gives from first fault to
