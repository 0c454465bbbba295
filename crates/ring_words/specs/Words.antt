-- The words that the program takes, and the order that they give.
-- ---- the command line
use Rattle.std.specs.Prelude.{◌≡◌, ◌≤◌, [], ⊤, Bool, ℕ, codes, option_map, pos, List, MatchOption, Option, None, Some, String, string_bytes, true, false}
use Rattle.std.specs.Str.Parse.{digits_value, without_leading_plus}
use Rattle.clap.specs.Words.{App, IsAmong, Row, Rule, Text, fault_of, first_of, kind_of, new_app, new_rule, one_of, subcommand_of, with_rule, with_subcommand}
use Rattle.clap.specs.Simple.{new_shape, on_top}
use Rattle.clap.specs.declared.builder.action.ArgAction.TheVariants.{SetTrue}
use Rattle.clap.specs.declared.builder.value_parser.ValueParser.TheVariants as parser
use Rattle.ring_words.specs.declared.words.Order.{Order}
use Rattle.ring_words.specs.declared.words.Order.TheVariants.{Journal, Replay, Run, Serve}
use Rattle.command_line.specs.declared.words.WordsFault.{WordsFault}
use Rattle.command_line.specs.declared.words.WordsFault.TheVariants.{Usage, NoMemory}

-- the name of a configuration's file, which must be given
abbrev pub config_rule : Rule
config_rule = record (new_rule (codes "config")) { value_names = 1; required = true }

-- an option with a number from the least to the most
abbrev pub number_rule : Text → ℕ → ℕ → Rule
number_rule name least most =
    record (new_rule name) {
      long = Some name;
      value_names = 1;
      parser = Some (parser.Signed (pos least) (pos most));
    }

-- how many connections `serve` accepts, which must be given
abbrev pub connections_rule : Rule
connections_rule = record (number_rule (codes "connections") 1 64) { required = true }

-- how many sessions `run` has at a time, and after how many seconds of silence it ends one
abbrev pub sessions_rule : Rule
sessions_rule = number_rule (codes "sessions") 1 128

abbrev pub idle_rule : Rule
idle_rule = number_rule (codes "idle") 0 86400

-- whether `run` prints places
abbrev pub places_rule : Rule
places_rule =
    record (new_rule (codes "places")) { long = Some (codes "places"); action = Some SetTrue }

-- an option with a text
abbrev pub text_rule : Text → Rule
text_rule name = record (new_rule name) { long = Some name; value_names = 1 }

-- the file in which `run` keeps a journal
abbrev pub kept_rule : Rule
kept_rule = text_rule (codes "journal")

-- the places at which `run` serves campaigns and answers HTTP
abbrev pub campaign_rule : Rule
campaign_rule = text_rule (codes "campaign")

abbrev pub http_rule : Rule
http_rule = text_rule (codes "http")

-- the path of a socket, and the mode of each socket
abbrev pub socket_rule : Rule
socket_rule = text_rule (codes "socket")

abbrev pub mode_rule : Rule
mode_rule = text_rule (codes "socket-mode")

-- the name of a journal's file, which must be given
abbrev pub file_rule : Rule
file_rule = record (new_rule (codes "file")) { value_names = 1; required = true }

-- `serve CONFIG --connections K`, with `--socket PATH` and `--socket-mode MODE` if they are given
abbrev pub serve_app : App
serve_app =
    with_rule
    (with_rule
    (with_rule (with_rule (new_app (codes "serve")) config_rule) connections_rule)
    socket_rule) mode_rule

-- `run CONFIG`, with `--sessions N`, `--idle SECONDS`, `--places`, `--journal FILE`,
-- `--campaign PLACE`, `--http PLACE`, `--socket PATH` and `--socket-mode MODE` if they are given
abbrev pub run_app : App
run_app =
    with_rule
    (with_rule
    (with_rule
    (with_rule
    (with_rule
    (with_rule
    (with_rule (with_rule (with_rule (new_app (codes "run")) config_rule) sessions_rule)
    idle_rule) places_rule) kept_rule) campaign_rule) http_rule) socket_rule) mode_rule

-- `journal FILE`
abbrev pub journal_app : App
journal_app = with_rule (new_app (codes "journal")) file_rule

-- the command line: one of the subcommands `replay`, `serve`, `run` and `journal` must be given; it
-- has a version
abbrev pub ringd_app : App
ringd_app =
    with_subcommand
    (with_subcommand
    (with_subcommand
    (with_subcommand
    (on_top (λ s. record s { subcommand_required = true; has_version = true })
    (new_app (codes "ringd"))) (new_shape (codes "replay"))) serve_app.top)
    run_app.top) journal_app.top

-- ---- the order that words give

-- The command line takes the words, and they name this subcommand, with these rows for its
-- arguments.
pub record Names (words : List Text) (name : Text) (rows : List Row) : Type 0 where
  pub taken : fault_of ringd_app words ≡ []
  pub named : subcommand_of ringd_app words ≡ Some (name, rows)

-- The text is that of the number, which is in the bounds.
pub record IsNumberIn (least most : ℕ) (text : Text) (n : ℕ) : Type 0 where
  pub value : n ≡ digits_value 10 (without_leading_plus text)
  pub some : least ≤ n
  pub few : n ≤ most

-- The rows of `serve`: its file and its number of connections. Then the path of its socket and the
-- text of a mode, if they are given.
pub record Serves (rows : List Row) (path : Text) (connections : ℕ) (socket mode : Option Text)
    : Type 0 where
  pub file : first_of (codes "config") rows ≡ Some path
  pub text : Text
  pub given : one_of (codes "connections") rows ≡ Some text
  pub number : IsNumberIn 1 64 text connections
  pub socket_given : first_of (codes "socket") rows ≡ socket
  pub mode_given : first_of (codes "socket-mode") rows ≡ mode

-- the number that is given for an option, or the usual one if none is given
abbrev pub IsGivenOr : ℕ → ℕ → ℕ → Option Text → ℕ → Type 0
IsGivenOr usual least most given n =
    MatchOption given (n ≡ usual) (λ text. IsNumberIn least most text n)

-- a flag: false if it has no text, otherwise the value of its text
abbrev pub IsFlag : Option Text → Bool → Type 0
IsFlag given flag =
    (given ≡ None → flag ≡ false) × (given ≡ Some (codes "true") → flag ≡ true)
    × (given ≡ Some (codes "false") → flag ≡ false)

-- The rows of `run`: its file, its number of sessions (16 if none is given) and its seconds (0 if
-- none are given). Then whether it prints places. Then the file of its journal, the texts of its
-- places for campaigns and for HTTP, the path of its socket and the text of a mode, if they are
-- given.
pub record Runs (rows : List Row) (path : Text) (sessions idle : ℕ) (places : Bool)
    (journal campaign http socket mode : Option Text) : Type 0 where
  pub file : first_of (codes "config") rows ≡ Some path
  pub sessions_given : IsGivenOr 16 1 128 (one_of (codes "sessions") rows) sessions
  pub idle_given : IsGivenOr 0 0 86400 (one_of (codes "idle") rows) idle
  pub places_given : IsFlag (one_of (codes "places") rows) places
  pub journal_given : first_of (codes "journal") rows ≡ journal
  pub campaign_given : first_of (codes "campaign") rows ≡ campaign
  pub http_given : first_of (codes "http") rows ≡ http
  pub socket_given : first_of (codes "socket") rows ≡ socket
  pub mode_given : first_of (codes "socket-mode") rows ≡ mode

-- the bytes of a text, if there is one
abbrev pub text_in : {Z : Type 0} → Option (String Z) → Option Text
text_in text = option_map string_bytes text

-- the command line takes the words, and this is the order that they give
abbrev pub IsGiven : List Text → Order → Type 0
IsGiven words Replay = (rows : List Row) × Names words (codes "replay") rows
IsGiven words (Serve path connections socket mode) =
    (rows : List Row) × Names words (codes "serve") rows
    × Serves rows (string_bytes path) connections (text_in socket) (text_in mode)
IsGiven words (Run path sessions idle places journal campaign http socket mode) =
    (rows : List Row) × Names words (codes "run") rows
    × Runs rows (string_bytes path) sessions idle places (text_in journal) (text_in campaign)
    (text_in http) (text_in socket) (text_in mode)
IsGiven words (Journal path) =
    (rows : List Row) × Names words (codes "journal") rows
    × (first_of (codes "file") rows ≡ Some (string_bytes path))

-- ---- why words give none

-- the words have a mistake of the error's kind, or an allocation failed
abbrev pub HasCause : List Text → WordsFault → Type 0
HasCause words (Usage error) = IsAmong (kind_of error) (fault_of ringd_app words)
HasCause words NoMemory = ⊤
