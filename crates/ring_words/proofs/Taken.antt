-- Words that the command line takes, and that name `serve`, `run` or `journal`, give the rows that
-- these need.
use Rattle.std.proofs.Common.{◌≡◌, ◌∙◌, ◌||◌, Bool, ℕ, codes, cond, true, false, not, refl, sym, ap, subst, inl, inr, List, [], ◌∷◌, IfOk, Option, Some, None, Result, Ok, Err, option_map}
use Rattle.std.specs.Prelude.{find, pos, slice_get, option_and_then}
use Rattle.std.specs.Str.{bytes_eq}
use Rattle.clap.specs.Lexer.{without_minus}
use Rattle.clap.specs.Takes.{is_given}
use Rattle.clap.specs.ValueTests.{accepts}
use Rattle.clap.specs.Values.{read_as, reading_of}
use Rattle.clap.specs.Facts.{parser_of_value}
use Rattle.clap.specs.declared.builder.value_parser.Reading.{Reading}
use Rattle.clap.specs.declared.builder.value_parser.Reading.TheVariants.{WithoutMinus}
use Rattle.clap.specs.declared.builder.value_parser.ValueParser.{ValueParser}
use Rattle.clap.specs.Walk.{Row, Rule, Text, first_of, one_of, row_text, rows_after}
use Rattle.clap.specs.declared.error.kind.ErrorKind.TheVariants.{MissingRequiredArgument}
use Rattle.clap.specs.declared.builder.value_parser.ValueParser.TheVariants as parser
use Rattle.clap.proofs.ValueTestLemmas.{accepts-Accepts}
use Rattle.ring_words.specs.private.Words.{HasFile, HasNumber, IsJournalOf, IsRun, IsRunOf, IsServeOf, IsServed, MayHaveNumber}
use Rattle.ring_words.specs.Words.{IsGiven, Names}
use Rattle.ring_words.specs.declared.words.Order.{Order}
use Rattle.ring_words.specs.declared.words.Order.TheVariants.{Journal, Replay, Run, Serve}
use Rattle.command_line.specs.declared.words.WordsFault.{WordsFault}
use Rattle.ring_words.proofs.Arguments.{serve_config, serve_connections, run_config, run_sessions, run_idle, journal_file, help_flag, help_keeps, serve_keeps_config, serve_keeps_connections, run_keeps_config, run_keeps_sessions, run_keeps_idle, serve_defaults, run_defaults}
use Rattle.ring_words.proofs.CommandLine.{IsLevel, journal_below, names_one, run_below, serve_below}
use Rattle.ring_words.proofs.Levels.{Each, EachKeeps}
use Rattle.ring_words.proofs.Rows.{IsRead, KeepDefaults, level_checks, level_reads, no_default, own_use, row_given, row_reads, set_keeps}

-- rows of a file that was given
has_file : (a : Rule) (name : Text) (rows : List Row) → a.id ≡ name → Each (IsRead a) rows → is_given a.id rows ≡ true → HasFile name rows
has_file a name rows named read given =
    let found = row_given a rows given in
    let well = row_reads a rows found.0 read found.1 in
    record {
      path = well.text;
      file = ap (λ (id : Text). first_of id rows) (sym named) ∙ ap (option_and_then (λ (r : Row). slice_get r.values 0)) found.1 ∙ well.first;
    }

-- the row of an option with a number in bounds
has_number : (a : Rule) (name : Text) (least most : ℕ) (rows : List Row) (row : Row) → a.id ≡ name → a.parser ≡ Some (parser.Signed (pos least) (pos most)) → Each (IsRead a) rows
    → find (λ (r : Row). bytes_eq r.id a.id) rows ≡ Some row → HasNumber name least most rows
has_number a name least most rows row named parsed read found =
    let well = row_reads a rows row read found in
    let how : row.reading ≡ WithoutMinus = well.read ∙ ap (λ (p : Option ValueParser). reading_of (parser_of_value p)) parsed in
    let reads : row_text row ≡ Some (without_minus well.text) =
    ap (λ (by : Reading). option_map (read_as by) (slice_get row.values 0)) how ∙ ap (option_map (read_as WithoutMinus)) well.first in
    let accepted = subst (λ (p : Option ValueParser). accepts a.ignore_case (parser_of_value p) well.text ≡ true) parsed well.passed in
    record {
      text = well.text;
      given = ap (λ (id : Text). one_of id rows) (sym named) ∙ ap (option_and_then row_text) found ∙ reads;
      passed = accepts-Accepts a.ignore_case (parser.Signed (pos least) (pos most)) well.text accepted;
    }

-- and of one that may be left out
may_have_number : (a : Rule) (name : Text) (least most : ℕ) (rows : List Row) → a.id ≡ name → a.parser ≡ Some (parser.Signed (pos least) (pos most)) → Each (IsRead a) rows
    → MayHaveNumber name least most rows
may_have_number a name least most rows named parsed read = go (find (λ (r : Row). bytes_eq r.id a.id) rows) refl
  where
    go : (o : Option Row) → find (λ (r : Row). bytes_eq r.id a.id) rows ≡ o → MayHaveNumber name least most rows
    go None none = inl (ap (λ (id : Text). one_of id rows) (sym named) ∙ ap (option_and_then row_text) none)
    go (Some row) found = inr (has_number a name least most rows row named parsed read found)

-- a required argument was given, if the last checks have no mistake
both_given : (x y : Bool) → cond (not x || (not y || false)) (MissingRequiredArgument ∷ []) [] ≡ [] → (x ≡ true) × (y ≡ true)
both_given true true none = (refl, refl)
both_given true false none = absurd (cc)
both_given false y none = absurd (cc)

one_given : (x : Bool) → cond (not x || false) (MissingRequiredArgument ∷ []) [] ≡ [] → x ≡ true
one_given true none = refl
one_given false none = absurd (cc)

-- the level of `serve` gives a file and a number
serve_gives : (rows : List Row) → IsLevel serve_below rows → IsServed rows
serve_gives rows level =
    let there = rows_after serve_below.rules [] level.given in
    let given = both_given (is_given serve_config.id there) (is_given serve_connections.id there) (level_checks serve_below level.given level.fine) in
    let config_read = level_reads serve_below (IsRead serve_config) serve_keeps_config (serve_defaults serve_config) level.given level.fine in
    let connections_read = level_reads serve_below (IsRead serve_connections) serve_keeps_connections (serve_defaults serve_connections) level.given level.fine in
    let row = row_given serve_connections there given.1 in
    subst IsServed (sym level.is) (record {
      file = has_file serve_config (codes "config") there refl config_read given.0;
      connections = has_number serve_connections (codes "connections") 1 64 there row.0 refl refl connections_read row.1;
    })

-- the level of `run` gives a file, and may give two numbers
run_gives : (rows : List Row) → IsLevel run_below rows → IsRun rows
run_gives rows level =
    let there = rows_after run_below.rules [] level.given in
    let given = one_given (is_given run_config.id there) (level_checks run_below level.given level.fine) in
    let config_read = level_reads run_below (IsRead run_config) run_keeps_config (run_defaults run_config refl) level.given level.fine in
    let sessions_read = level_reads run_below (IsRead run_sessions) run_keeps_sessions (run_defaults run_sessions refl) level.given level.fine in
    let idle_read = level_reads run_below (IsRead run_idle) run_keeps_idle (run_defaults run_idle refl) level.given level.fine in
    subst IsRun (sym level.is) (record {
      file = has_file run_config (codes "config") there refl config_read given;
      sessions = may_have_number run_sessions (codes "sessions") 1 128 there refl refl sessions_read;
      idle = may_have_number run_idle (codes "idle") 0 86400 there refl refl idle_read;
    })

-- the level of `journal` gives a file
journal_gives : (rows : List Row) → IsLevel journal_below rows → HasFile (codes "file") rows
journal_gives rows level =
    let there = rows_after journal_below.rules [] level.given in
    let given = one_given (is_given journal_file.id there) (level_checks journal_below level.given level.fine) in
    let keeps : EachKeeps journal_below (IsRead journal_file) journal_below.rules = (set_keeps false journal_file journal_file (own_use journal_file) refl, (help_keeps (IsRead journal_file), tt)) in
    let defaults : KeepDefaults (IsRead journal_file) journal_below.rules = (no_default (IsRead journal_file) journal_file refl, (no_default (IsRead journal_file) help_flag refl, tt)) in
    let file_read = level_reads journal_below (IsRead journal_file) keeps defaults level.given level.fine in
    subst (HasFile (codes "file")) (sym level.is) (has_file journal_file (codes "file") there refl file_read given)

-- words that name `serve` give its rows
pub named_serves : (words : List Text) (rows : List Row) → Names words (codes "serve") rows → IsServed rows
named_serves words rows names = serve_gives rows ((names_one words (codes "serve") rows names).1.serve refl)

-- and words that name `run`
pub named_runs : (words : List Text) (rows : List Row) → Names words (codes "run") rows → IsRun rows
named_runs words rows names = run_gives rows ((names_one words (codes "run") rows names).1.run refl)

-- and words that name `journal`
pub named_journal : (words : List Text) (rows : List Row) → Names words (codes "journal") rows → HasFile (codes "file") rows
named_journal words rows names = journal_gives rows ((names_one words (codes "journal") rows names).1.journal refl)

-- so the order of `serve`, if there is one, is the one that the words give
pub serves_as_given : (words : List Text) (rows : List Row) (r : Result Order WordsFault) → Names words (codes "serve") rows → IfOk r (IsServeOf rows) → IfOk r (IsGiven words)
serves_as_given words rows (Ok Replay) names told = absurd told
serves_as_given words rows (Ok (Serve path connections socket mode)) names told = (rows, names, told)
serves_as_given words rows (Ok (Run path sessions idle places journal campaign http socket mode)) names told = absurd told
serves_as_given words rows (Ok (Journal path)) names told = absurd told
serves_as_given words rows (Err fault) names told = tt

-- and so that of `run`
pub runs_as_given : (words : List Text) (rows : List Row) (r : Result Order WordsFault) → Names words (codes "run") rows → IfOk r (IsRunOf rows) → IfOk r (IsGiven words)
runs_as_given words rows (Ok Replay) names told = absurd told
runs_as_given words rows (Ok (Serve path connections socket mode)) names told = absurd told
runs_as_given words rows (Ok (Run path sessions idle places journal campaign http socket mode)) names told = (rows, names, told)
runs_as_given words rows (Ok (Journal path)) names told = absurd told
runs_as_given words rows (Err fault) names told = tt

-- and that of `journal`
pub journal_as_given : (words : List Text) (rows : List Row) (r : Result Order WordsFault) → Names words (codes "journal") rows → IfOk r (IsJournalOf rows) → IfOk r (IsGiven words)
journal_as_given words rows (Ok Replay) names told = absurd told
journal_as_given words rows (Ok (Serve path connections socket mode)) names told = absurd told
journal_as_given words rows (Ok (Run path sessions idle places journal campaign http socket mode)) names told = absurd told
journal_as_given words rows (Ok (Journal path)) names told = (rows, names, told)
journal_as_given words rows (Err fault) names told = tt
