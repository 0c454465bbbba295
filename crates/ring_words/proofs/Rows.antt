-- The rows of a level and its arguments, if the words have no mistake. The first value of an
-- argument is one that it takes.
use Rattle.std.proofs.Common.{◌≡◌, ◌∙◌, Bool, cond, true, false, refl, sym, subst, List, [], ◌∷◌, ◌++◌, length, Option, Some, None, fold, true≢false}
use Rattle.std.specs.Prelude.{⊤, IfSome, find, slice_get}
use Rattle.std.specs.Option.{option_map_or}
use Rattle.std.specs.Str.{bytes_eq}
use Rattle.clap.specs.Facts.{explicit_source}
use Rattle.clap.specs.Faults.{check_fault, defaults_fault, level_fault, repeat_fault, set_fault, settle_fault, use_fault, values_fault, walk_fault}
use Rattle.clap.specs.Kinds.{Kinds, or_else, range_kinds, value_kinds, values_kinds}
use Rattle.clap.specs.Simple.{Shape}
use Rattle.clap.specs.Takes.{is_given, value_passes}
use Rattle.clap.specs.Walk.{Held, Row, Rule, Text, action_of, default_rows, finished, has_row, more_values, nothing_held, reading_by, rows_after, settled, used, used_as, values_or_missing, walk, walk_from, with_default, with_values, without}
use Rattle.clap.specs.declared.builder.action.ArgAction.{ArgAction}
use Rattle.clap.specs.declared.builder.action.ArgAction.TheVariants.{Set, SetTrue}
use Rattle.clap.specs.declared.builder.value_parser.Reading.{Reading}
use Rattle.clap.specs.declared.error.kind.ErrorKind.{ErrorKind}
use Rattle.clap.specs.declared.parser.matches.ValueSource.{ValueSource}
use Rattle.clap.specs.declared.parser.matches.ValueSource.TheVariants.{CommandLine, DefaultValue}
use Rattle.clap.specs.Facts.{parser_of_value}
use Rattle.ring_words.proofs.Levels.{Each, EachKeeps, each_at_row, settled_keeps, walk_keeps}
use Rattle.ring_words.proofs.Subcommands.{first_has_none, second_has_none}

-- The first of the values is one that the argument takes, and is read as the argument says.
pub record BeginsWell (a : Rule) (values : List Text) (how : Reading) : Type 0 where
  pub text : Text
  pub first : slice_get values 0 ≡ Some text
  pub passed : value_passes a text ≡ true
  pub read : how ≡ reading_by a

-- the row begins well, if it is that of the argument
abbrev pub IsRead : Rule → Row → Type 0
IsRead a row = bytes_eq row.id a.id ≡ true → BeginsWell a row.values row.reading

-- the row of an argument that was used for the first time, with these values
abbrev pub fresh : Rule → List Text → Row
fresh a values = record { id = a.id; values = values; count = None; source = Some CommandLine; reading = reading_by a }

-- values that begin with a text still do if more follow
begins_still : (values more : List Text) (text : Text) → slice_get values 0 ≡ Some text → slice_get (values ++ more) 0 ≡ Some text
begins_still [] more text first = absurd (cc)
begins_still (v ∷ values) more text first = first

-- a row that gets more values stays well read
more_keep : (wanted : Rule) (source : ValueSource) (more : List Text) (row : Row) → IsRead wanted row → Each (IsRead wanted) (more_values source more row)
more_keep wanted source more row good = (
  (λ same. record {
    text = (good same).text;
    first = begins_still row.values more (good same).text (good same).first;
    passed = (good same).passed;
    read = (good same).read;
  }),
  tt,
)

-- a use of an argument with one value keeps rows well read, if the row that it makes is
pub set_keeps : (again : Bool) (wanted a : Rule) → ((v : Text) (vs : List Text) → values_fault a (v ∷ vs) ≡ [] → IsRead wanted (fresh a (v ∷ vs)))
    → a.missing ≡ []
    → (values : List Text) (rows : List Row) → Each (IsRead wanted) rows → or_else (range_kinds 1 1 (length values)) (set_fault again a (values_or_missing a values) rows) ≡ []
    → Each (IsRead wanted) (used_as Set a.id (reading_by a) (values_or_missing a values) rows)
set_keeps again wanted a made missing [] rows all none = absurd (cc)
set_keeps again wanted a made missing (v ∷ vs) rows all none =
    let of_use : Kinds = set_fault again a (v ∷ vs) rows in
    let none_of_use = second_has_none (range_kinds 1 1 (length (v ∷ vs))) of_use none in
    let none_of_values = second_has_none (repeat_fault again a.id rows) (values_fault a (v ∷ vs)) none_of_use in
    each_at_row (IsRead wanted) a.id (more_values CommandLine (v ∷ vs)) (fresh a (v ∷ vs) ∷ []) (without a.id rows)
    (λ row good. more_keep wanted CommandLine (v ∷ vs) row good) (made v vs none_of_values, tt)
    (each_at_row (IsRead wanted) a.id (λ _. []) [] rows (λ row good. tt) tt all)

-- a value without a mistake passes
passes_of : (b : Bool) (k : ErrorKind) → cond b [] (k ∷ []) ≡ [] → b ≡ true
passes_of true k none = refl
passes_of false k none = absurd (cc)

-- the argument's own first use
pub own_use : (a : Rule) (v : Text) (vs : List Text) → values_fault a (v ∷ vs) ≡ [] → IsRead a (fresh a (v ∷ vs))
own_use a v vs none same = record {
  text = v;
  first = refl;
  passed = passes_of (value_passes a v) _ (first_has_none (value_kinds a.ignore_case (parser_of_value a.parser) v) (values_kinds a.ignore_case (parser_of_value a.parser) vs) none);
  read = refl;
}

-- the first use of an argument of another name
pub other_use : (wanted a : Rule) → bytes_eq a.id wanted.id ≡ false → (v : Text) (vs : List Text) → values_fault a (v ∷ vs) ≡ [] → IsRead wanted (fresh a (v ∷ vs))
other_use wanted a other v vs none same = absurd (true≢false (sym same ∙ other))

-- values for an argument of another name keep the rows of this one well read
values_keep : (wanted : Rule) (id : Text) (how : Reading) (source : ValueSource) (values : List Text) (rows : List Row) → bytes_eq id wanted.id ≡ false → Each (IsRead wanted) rows → Each (IsRead wanted) (with_values id how source values rows)
values_keep wanted id how source values rows other all =
    each_at_row (IsRead wanted) id (more_values source values) (record { id = id; values = values; count = None; source = Some source; reading = how } ∷ []) rows
    (λ row good. more_keep wanted source values row good) ((λ same. absurd (true≢false (sym same ∙ other))), tt) all

-- a use of a flag keeps the rows of another argument well read
pub flag_keeps : (again : Bool) (wanted a : Rule) → bytes_eq a.id wanted.id ≡ false → action_of a ≡ SetTrue → (values : List Text) (rows : List Row) → Each (IsRead wanted) rows → use_fault again a values rows ≡ []
    → Each (IsRead wanted) (used a values rows)
flag_keeps again wanted a other acts values rows all none =
    subst (λ (action : ArgAction). Each (IsRead wanted) (used_as action a.id (reading_by a) (values_or_missing a values) rows)) (sym acts)
    (values_keep wanted a.id (reading_by a) CommandLine (values_or_missing a values) (without a.id rows) other
    (each_at_row (IsRead wanted) a.id (λ _. []) [] rows (λ row good. tt) tt all))

-- the default values of an argument keep what holds of each row
abbrev pub KeepsDefault : (Row → Type 0) → Rule → Type 0
KeepsDefault good a = (rows : List Row) → Each good rows → Each good (with_default rows a)

abbrev pub KeepDefaults : (Row → Type 0) → List Rule → Type 0
KeepDefaults good [] = ⊤
KeepDefaults good (a ∷ rest) = KeepsDefault good a × KeepDefaults good rest

-- an argument that has none adds no rows
pub no_default : (good : Row → Type 0) (a : Rule) → a.defaults ≡ [] → KeepsDefault good a
no_default good a none rows all = go (has_row a.id rows)
  where
    go : (b : Bool) → Each good (cond b rows (default_rows a.id (reading_by a) a.defaults rows))
    go true = all
    go false = subst (λ (values : List Text). Each good (default_rows a.id (reading_by a) values rows)) (sym none) all

-- those of an argument of another name keep the rows of this one well read
pub other_default : (wanted a : Rule) → bytes_eq a.id wanted.id ≡ false → KeepsDefault (IsRead wanted) a
other_default wanted a other rows all = go (has_row a.id rows)
  where
    of_values : (values : List Text) → Each (IsRead wanted) (default_rows a.id (reading_by a) values rows)
    of_values [] = all
    of_values (v ∷ vs) = values_keep wanted a.id (reading_by a) DefaultValue (v ∷ vs) rows other all

    go : (b : Bool) → Each (IsRead wanted) (cond b rows (default_rows a.id (reading_by a) a.defaults rows))
    go true = all
    go false = of_values a.defaults

defaults_keep : (good : Row → Type 0) (rules : List Rule) (rows : List Row) → KeepDefaults good rules → Each good rows → Each good (fold with_default rows rules)
defaults_keep good [] rows keep all = all
defaults_keep good (a ∷ rest) rows keep all = defaults_keep good rest (with_default rows a) keep.1 (keep.0 rows all)

-- the rows of a level whose words have no mistake are well read
pub level_reads : (s : Shape) (good : Row → Type 0) → EachKeeps s good s.rules → KeepDefaults good s.rules → (words : List Text) → level_fault s [] nothing_held words false [] ≡ []
    → Each good (rows_after s.rules [] words)
level_reads s good keeps defaults words fine =
    let end : Held = (walk s.rules [] nothing_held words).held in
    let of_walk : Kinds = walk_fault s [] (walk_from nothing_held) words in
    let of_end : Kinds = settle_fault s.rules s.args_override_self end in
    let of_rest : Kinds = or_else (defaults_fault (settled s.rules end).rows s.rules) (check_fault s (finished s.rules end) false) in
    let walked_well = walk_keeps s good keeps [] (walk_from nothing_held) words tt (first_has_none of_walk (or_else of_end of_rest) fine) in
    let settled_well = settled_keeps s good keeps end walked_well (first_has_none of_end of_rest (second_has_none of_walk (or_else of_end of_rest) fine)) in
    defaults_keep good s.rules (settled s.rules end).rows defaults settled_well

-- and the last checks of such a level have none
pub level_checks : (s : Shape) (words : List Text) → level_fault s [] nothing_held words false [] ≡ [] → check_fault s (rows_after s.rules [] words) false ≡ []
level_checks s words fine =
    let end : Held = (walk s.rules [] nothing_held words).held in
    let of_walk : Kinds = walk_fault s [] (walk_from nothing_held) words in
    let of_end : Kinds = settle_fault s.rules s.args_override_self end in
    let of_defaults : Kinds = defaults_fault (settled s.rules end).rows s.rules in
    let of_checks : Kinds = check_fault s (finished s.rules end) false in
    second_has_none of_defaults of_checks
    (second_has_none of_end (or_else of_defaults of_checks) (second_has_none of_walk (or_else of_end (or_else of_defaults of_checks)) fine))

-- the row that is found for an argument is well read
pub row_reads : (a : Rule) (rows : List Row) (row : Row) → Each (IsRead a) rows → find (λ (r : Row). bytes_eq r.id a.id) rows ≡ Some row → BeginsWell a row.values row.reading
row_reads a [] row all found = absurd (cc)
row_reads a (first ∷ rows) row all found = go (bytes_eq first.id a.id) refl found (λ later. row_reads a rows row all.1 later)
  where
    go : (b : Bool) → bytes_eq first.id a.id ≡ b → cond b (Some first) (find (λ (r : Row). bytes_eq r.id a.id) rows) ≡ Some row
        → (find (λ (r : Row). bytes_eq r.id a.id) rows ≡ Some row → BeginsWell a row.values row.reading) → BeginsWell a row.values row.reading
    go true same here later = subst (λ (o : Option Row). IfSome o (λ r. BeginsWell a r.values r.reading)) here (all.0 same)
    go false same there later = later there

-- an argument that was given has a row
pub row_given : (a : Rule) (rows : List Row) → is_given a.id rows ≡ true → (row : Row) × (find (λ (r : Row). bytes_eq r.id a.id) rows ≡ Some row)
row_given a rows given = go (find (λ (r : Row). bytes_eq r.id a.id) rows) refl given
  where
    go : (o : Option Row) → find (λ (r : Row). bytes_eq r.id a.id) rows ≡ o → option_map_or (λ (r : Row). explicit_source r.source) o false ≡ true
        → (row : Row) × (find (λ (r : Row). bytes_eq r.id a.id) rows ≡ Some row)
    go None found bad = absurd (cc)
    go (Some row) found fine = (row, found)
