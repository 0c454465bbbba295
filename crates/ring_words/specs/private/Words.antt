-- The words of a call, for inner functions.
use Rattle.std.specs.Prelude.{◌≡◌, ◌⊎◌, ℕ, codes, pos, List, None, Some, string_bytes, false}
use Rattle.clap.specs.Words.{IsSignedIn, Row, Text, first_of, one_of, without_minus}
use Rattle.clap.specs.declared.builder.command.Command.{Command}
use Rattle.clap.specs.declared.builder.command.Command.TheViews.{out-Command}
use Rattle.ring_words.specs.declared.words.Order.{Order}
use Rattle.ring_words.specs.declared.words.Order.TheVariants.{Journal, Run, Serve}
use Rattle.ring_words.specs.Words.{Runs, Serves, text_in}

-- no argument of the command holds for its subcommands too
abbrev pub IsLocal : Command → Type 0
IsLocal c = (out-Command c).has_globals ≡ false

-- the order of `serve` that rows give, that of `run`, and that of `journal`
abbrev pub IsServeOf : List Row → Order → Type 0
IsServeOf rows (Serve path connections socket mode) =
    Serves rows (string_bytes path) connections (text_in socket) (text_in mode)
IsServeOf rows _ = ⊥

abbrev pub IsRunOf : List Row → Order → Type 0
IsRunOf rows (Run path sessions idle places journal campaign http socket mode) =
    Runs rows (string_bytes path) sessions idle places (text_in journal) (text_in campaign)
    (text_in http) (text_in socket) (text_in mode)
IsRunOf rows _ = ⊥

abbrev pub IsJournalOf : List Row → Order → Type 0
IsJournalOf rows (Journal path) = first_of (codes "file") rows ≡ Some (string_bytes path)
IsJournalOf rows _ = ⊥

-- The rows have a number for this option, in the bounds.
pub record HasNumber (name : Text) (least most : ℕ) (rows : List Row) : Type 0 where
  pub text : Text
  pub given : one_of name rows ≡ Some (without_minus text)
  pub passed : IsSignedIn (pos least) (pos most) text

-- they have one, or the option was not given
abbrev pub MayHaveNumber : Text → ℕ → ℕ → List Row → Type 0
MayHaveNumber name least most rows = (one_of name rows ≡ None) ⊎ HasNumber name least most rows

-- The rows have a file for this argument.
pub record HasFile (name : Text) (rows : List Row) : Type 0 where
  pub path : Text
  pub file : first_of name rows ≡ Some path

-- The rows of `serve`, if its words are taken.
pub record IsServed (rows : List Row) : Type 0 where
  pub file : HasFile (codes "config") rows
  pub connections : HasNumber (codes "connections") 1 64 rows

-- The rows of `run`, if its words are taken.
pub record IsRun (rows : List Row) : Type 0 where
  pub file : HasFile (codes "config") rows
  pub sessions : MayHaveNumber (codes "sessions") 1 128 rows
  pub idle : MayHaveNumber (codes "idle") 0 86400 rows
