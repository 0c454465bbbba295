-- The program's own command line: it takes `ringd replay`, and what it takes names `replay`, `serve`, `run`
-- or `journal`.
use Rattle.std.proofs.Common.{◌≡◌, ◌∙◌, ◌⊎◌, ◌||◌, Bool, IfOk, codes, cond, true, false, refl, sym, ap, ap₂, subst, inl, inr, List, [], ◌∷◌, Option, Some, None, Result, Ok, Err, IsErrAnd, IsOkUnless, is_some, option_map, true≢false}
use Rattle.std.specs.Prelude.{Box, IfErr, IfSome, slice_get, unwrap_or}
use Rattle.std.specs.Option.{option_map_or}
use Rattle.std.specs.Box.{box_value}
use Rattle.std.specs.Str.{bytes_eq}
use Rattle.std.proofs.lemmas.Slice.Eq.{bytes_eq-Decides}
use Rattle.clap.specs.Walk.{Row, Text, Walk, answers_to, finished, nothing_held, rows_after, settled, walk, walk_from}
use Rattle.clap.specs.Simple.{App, Shape, argument_words, built, entered, label_of, names_of, rows_at}
use Rattle.clap.specs.Kinds.{HasKind, IsAmong, Kinds, or_else}
use Rattle.clap.specs.Faults.{check_fault, defaults_fault, entered_fault, level_fault, settle_fault, walk_fault}
use Rattle.clap.specs.Words.{HasMatchesOf, fault_of, kind_of, is_simple, is_simple_and_free, subcommand_name_of, subcommand_of, subcommand_rows, subcommand_rows_of, takes}
use Rattle.clap.specs.declared.error.Error.{Error}
use Rattle.clap.specs.declared.error.kind.ErrorKind.TheVariants.{OutOfMemory}
use Rattle.clap.specs.declared.parser.matches.ArgMatches.{ArgMatches}
use Rattle.clap.specs.declared.parser.matches.SubCommand.{SubCommand}
use Rattle.clap.specs.declared.parser.matches.ArgMatches.TheViews.{out-ArgMatches, out-SubCommand}
use Rattle.clap.proofs.OnLiterals.{clap_on_literals}
use Rattle.command_line.specs.Words.{IsFaultOf}
use Rattle.ring_words.specs.Words.{HasCause, IsGiven, Names, ringd_app}
use Rattle.ring_words.specs.declared.words.Order.{Order}
use Rattle.command_line.specs.declared.words.WordsFault.{WordsFault}
use Rattle.command_line.specs.declared.words.WordsFault.TheVariants.{NoMemory, Usage}
use Rattle.ring_words.proofs.Subcommands.{AvoidsHelp, second_has_none, first_has_none, walk_avoids_help}

-- the command as a parse reads it
abbrev pub whole : App
whole = built ringd_app

-- clap's contracts speak of this command
pub ringd_app_is_simple : is_simple_and_free ringd_app ≡ true
ringd_app_is_simple = refl

-- it takes the words `ringd replay`
pub replay_is_taken : (program : Text) → takes ringd_app (program ∷ codes "replay" ∷ []) ≡ true
unfolding clap_on_literals
replay_is_taken program = refl

-- the subcommands of the built command
abbrev pub replay_below : Shape
replay_below = unwrap_or (slice_get whole.subs 0) whole.top

abbrev pub serve_below : Shape
serve_below = unwrap_or (slice_get whole.subs 1) whole.top

abbrev pub run_below : Shape
run_below = unwrap_or (slice_get whole.subs 2) whole.top

abbrev pub journal_below : Shape
journal_below = unwrap_or (slice_get whole.subs 3) whole.top

abbrev pub help_below : Shape
help_below = unwrap_or (slice_get whole.subs 4) whole.top

-- a name that answers to `help` is `help`
is_help : (name : Text) → answers_to name (label_of help_below) ≡ true → bytes_eq name (codes "help") ≡ true
is_help name answers = (bytes_eq-Decides name (codes "help")).1 (sym ((bytes_eq-Decides (codes "help") name).0 (alone (bytes_eq (codes "help") name) answers)))
  where
    alone : (b : Bool) → (b || false) ≡ true → b ≡ true
    alone true same = refl
    alone false same = same

-- the name is that of one of the program's subcommands
abbrev pub IsOurs : Text → Type 0
IsOurs name = (name ≡ codes "replay") ⊎ ((name ≡ codes "serve") ⊎ ((name ≡ codes "run") ⊎ (name ≡ codes "journal")))

-- the subcommand that is the first to answer to a name, by the one that answers
abbrev pub below : Bool → Bool → Bool → Bool → Bool → Option Shape
below replay serve run journal help =
    cond replay (Some replay_below) (cond serve (Some serve_below) (cond run (Some run_below) (cond journal (Some journal_below) (cond help (Some help_below) None))))

-- if a subcommand was met that is not `help`, and none is missing, it is one of the program's
stop_names_one : (rows : List Row) (stop : Option (Text × List Text)) → AvoidsHelp stop → check_fault whole.top rows (is_some (entered whole stop)) ≡ []
    → (q : Text × List Row) × (entered whole stop ≡ Some q) × IsOurs q.0
stop_names_one rows None avoids none = absurd (cc)
stop_names_one rows (Some p) avoids none =
    go (answers_to p.0 (label_of replay_below)) (answers_to p.0 (label_of serve_below)) (answers_to p.0 (label_of run_below)) (answers_to p.0 (label_of journal_below))
    (answers_to p.0 (label_of help_below)) refl none
  where
    found : Bool → Bool → Bool → Bool → Bool → Option (Text × List Row)
    found replay serve run journal help = option_map (λ s. rows_at s p.1) (below replay serve run journal help)

    go : (replay serve run journal help : Bool) → answers_to p.0 (label_of help_below) ≡ help → check_fault whole.top rows (is_some (found replay serve run journal help)) ≡ []
        → (q : Text × List Row) × (found replay serve run journal help ≡ Some q) × IsOurs q.0
    go true serve run journal help same fine = (rows_at replay_below p.1, refl, inl refl)
    go false true run journal help same fine = (rows_at serve_below p.1, refl, inr (inl refl))
    go false false true journal help same fine = (rows_at run_below p.1, refl, inr (inr (inl refl)))
    go false false false true help same fine = (rows_at journal_below p.1, refl, inr (inr (inr refl)))
    go false false false false true same fine = absurd (true≢false (sym (is_help p.0 same) ∙ avoids))
    go false false false false false same bad = absurd (cc)

-- The words after a subcommand have no mistake at its level, and give these rows.
pub record IsLevel (s : Shape) (rows : List Row) : Type 0 where
  pub given : List Text
  pub fine : level_fault s [] nothing_held given false [] ≡ []
  pub is : rows ≡ rows_after s.rules [] given

-- The rows that the level of `serve`, of `run` or of `journal` gives, if it is the one that was
-- met.
pub record OfLevels (q : Text × List Row) : Type 0 where
  pub serve : bytes_eq q.0 (codes "serve") ≡ true → IsLevel serve_below q.1
  pub run : bytes_eq q.0 (codes "run") ≡ true → IsLevel run_below q.1
  pub journal : bytes_eq q.0 (codes "journal") ≡ true → IsLevel journal_below q.1

entered_levels : (stop : Option (Text × List Text)) (q : Text × List Row) → entered_fault whole stop ≡ [] → entered whole stop ≡ Some q → OfLevels q
entered_levels None q fine same = absurd (cc)
entered_levels (Some p) q fine same =
    go (answers_to p.0 (label_of replay_below)) (answers_to p.0 (label_of serve_below)) (answers_to p.0 (label_of run_below)) (answers_to p.0 (label_of journal_below))
    (answers_to p.0 (label_of help_below)) fine same
  where
    none_of : (name : Text) (s : Shape) → bytes_eq s.name name ≡ false → {A : Type 0} → bytes_eq s.name name ≡ true → A
    none_of name s other is = absurd (true≢false (sym is ∙ other))

    other : (s : Shape) → bytes_eq s.name (codes "serve") ≡ false → bytes_eq s.name (codes "run") ≡ false → bytes_eq s.name (codes "journal") ≡ false → OfLevels (rows_at s p.1)
    other s serve run journal = record { serve = none_of (codes "serve") s serve; run = none_of (codes "run") s run; journal = none_of (codes "journal") s journal }

    at : (r : Text × List Row) → Some r ≡ Some q → OfLevels r → OfLevels q
    at r is levels = subst (λ (o : Option (Text × List Row)). IfSome o OfLevels) is levels

    level : (s : Shape) → level_fault s [] nothing_held p.1 false [] ≡ [] → IsLevel s (rows_at s p.1).1
    level s fine = record { given = p.1; fine = fine; is = refl }

    go : (replay serve run journal help : Bool) → option_map_or (λ s. level_fault s [] nothing_held p.1 false []) (below replay serve run journal help) [] ≡ []
        → option_map (λ s. rows_at s p.1) (below replay serve run journal help) ≡ Some q → OfLevels q
    go true serve run journal help none is = at (rows_at replay_below p.1) is (other replay_below refl refl refl)
    go false true run journal help none is =
        at (rows_at serve_below p.1) is (record { serve = λ _. level serve_below none; run = none_of (codes "run") serve_below refl; journal = none_of (codes "journal") serve_below refl })
    go false false true journal help none is =
        at (rows_at run_below p.1) is (record { serve = none_of (codes "serve") run_below refl; run = λ _. level run_below none; journal = none_of (codes "journal") run_below refl })
    go false false false true help none is =
        at (rows_at journal_below p.1) is (record { serve = none_of (codes "serve") journal_below refl; run = none_of (codes "run") journal_below refl; journal = λ _. level journal_below none })
    go false false false false true none is = at (rows_at help_below p.1) is (other help_below refl refl refl)
    go false false false false false none is = absurd (cc)

-- The subcommand that words without a mistake name, and the level of it.
pub record NamesOne (words : List Text) : Type 0 where
  pub met : Text × List Row
  pub named : subcommand_of ringd_app words ≡ Some met
  pub ours : IsOurs met.0
  pub levels : OfLevels met

-- words that have no mistake name one of the program's subcommands
pub taken_names_one : (words : List Text) → fault_of ringd_app words ≡ [] → NamesOne words
taken_names_one words none =
    let given : List Text = argument_words ringd_app words in
    let end : Walk = walk whole.top.rules (names_of whole) nothing_held given in
    let rows : List Row = finished whole.top.rules end.held in
    let of_walk : Kinds = walk_fault whole.top (names_of whole) (walk_from nothing_held) given in
    let of_subcommand : Kinds = entered_fault whole end.stopped in
    let of_last_use : Kinds = settle_fault whole.top.rules whole.top.args_override_self end.held in
    let of_defaults : Kinds = defaults_fault (settled whole.top.rules end.held).rows whole.top.rules in
    let of_checks : Kinds = check_fault whole.top rows (is_some (entered whole end.stopped)) in
    let avoids = walk_avoids_help whole.top (names_of whole) (walk_from nothing_held) given refl refl
    (first_has_none of_walk (or_else of_subcommand (or_else of_last_use (or_else of_defaults of_checks))) none) in
    let after_walk = second_has_none of_walk (or_else of_subcommand (or_else of_last_use (or_else of_defaults of_checks))) none in
    let at_subcommand = first_has_none of_subcommand (or_else of_last_use (or_else of_defaults of_checks)) after_walk in
    let after_subcommand = second_has_none of_subcommand (or_else of_last_use (or_else of_defaults of_checks)) after_walk in
    let after_last_use = second_has_none of_last_use (or_else of_defaults of_checks) after_subcommand in
    let one = stop_names_one rows end.stopped avoids (second_has_none of_defaults of_checks after_last_use) in
    record { met = one.0; named = one.1; ours = one.2; levels = entered_levels end.stopped one.0 at_subcommand one.1 }

-- a parse by this command line says that the words have no mistake, if it met a subcommand
pub no_mistake : (a : App) (words : List Text) → a ≡ ringd_app → (is_simple_and_free a ≡ true → fault_of a words ≡ []) → fault_of ringd_app words ≡ []
no_mistake a words is free = ap (λ (x : App). fault_of x words) (sym is) ∙ free (ap is_simple_and_free is ∙ ringd_app_is_simple)

-- the name of the subcommand that a parse met is that of its matches
name_of_rows : (m : ArgMatches) → subcommand_name_of m ≡ option_map (λ p. p.0) (subcommand_rows_of m)
name_of_rows m = go (out-ArgMatches m).subcommand
  where
    go : {Z : Type 0} (o : Option (Box SubCommand Z)) → option_map (λ b. (out-SubCommand (box_value b)).name.now) o ≡ option_map (λ p. p.0) (subcommand_rows o)
    go None = refl
    go (Some b) = refl

-- a pair by its two halves
both_halves : (o : Option (Text × List Row)) (name : Text) (rows : List Row) → Some name ≡ option_map (λ p. p.0) o → Some rows ≡ option_map (λ p. p.1) o → o ≡ Some (name, rows)
both_halves None name rows a b = absurd (cc)
both_halves (Some p) name rows a b =
    ap₂ (λ (x : Text) (y : List Row). Some (x, y)) (sym (ap (λ (o : Option Text). unwrap_or o name) a)) (sym (ap (λ (o : Option (List Row)). unwrap_or o rows) b))

-- the subcommand that a parse by this command line met is the one that the words name
rows_met : (a : App) (words : List Text) (m : ArgMatches) → a ≡ ringd_app → HasMatchesOf a words m → subcommand_rows_of m ≡ subcommand_of ringd_app words
rows_met a words m is matches = (matches (ap is_simple is ∙ refl)).1 ∙ ap (λ (x : App). subcommand_of x words) is

-- so its name and its rows are what the words name
pub meets : (a : App) (words : List Text) (m : ArgMatches) (name : Text) (rows : List Row) → a ≡ ringd_app → (is_simple_and_free a ≡ true → fault_of a words ≡ []) → HasMatchesOf a words m
    → Some name ≡ subcommand_name_of m → Some rows ≡ option_map (λ p. p.1) (subcommand_rows_of m) → Names words name rows
meets a words m name rows is free matches by_name by_rows =
    let met : subcommand_rows_of m ≡ Some (name, rows) = both_halves (subcommand_rows_of m) name rows (by_name ∙ name_of_rows m) by_rows in
    record { taken = no_mistake a words is free; named = sym (rows_met a words m is matches) ∙ met }

-- and a parse that has matches met one
pub meets_one : (a : App) (words : List Text) (m : ArgMatches) → a ≡ ringd_app → (is_simple_and_free a ≡ true → fault_of a words ≡ []) → HasMatchesOf a words m
    → option_map (λ p. p.1) (subcommand_rows_of m) ≡ None → ⊥
meets_one a words m is free matches none =
    let one = taken_names_one words (no_mistake a words is free) in
    let met : Some one.met ≡ subcommand_rows_of m = sym (rows_met a words m is matches ∙ one.named) in
    let bad : Some one.met.1 ≡ None = ap (λ (o : Option (Text × List Row)). option_map (λ p. p.1) o) met ∙ none in
    cc

-- words that name a subcommand name one of the program's, and its level
pub names_one : (words : List Text) (name : Text) (rows : List Row) → Names words name rows → IsOurs name × OfLevels (name, rows)
names_one words name rows names =
    let one = taken_names_one words names.taken in
    let same : Some one.met ≡ Some (name, rows) = sym one.named ∙ names.named in
    subst (λ (o : Option (Text × List Row)). IfSome o (λ q. IsOurs q.0 × OfLevels q)) same (one.ours, one.levels)

-- if a parse by this command line can fail only for memory, the words' fault says so
pub fails_for_memory : (a : App) (words : List Text) (error : Error) (r : Result Order WordsFault) → a ≡ ringd_app → (takes a words ≡ true → kind_of error ≡ OutOfMemory)
    → IsErrAnd r (IsFaultOf error) → takes ringd_app words ≡ true → IsOkUnless r NoMemory
fails_for_memory a words error (Ok order) is passes told taken = tt
fails_for_memory a words error (Err NoMemory) is passes told taken = refl
fails_for_memory a words error (Err (Usage given)) is passes told taken = absurd (told.1 (passes (ap (λ (x : App). takes x words) is ∙ taken)))

-- a fault made of clap's error has its cause
pub has_cause : (a : App) (words : List Text) (error : Error) (r : Result Order WordsFault) → a ≡ ringd_app → (is_simple_and_free a ≡ true → HasKind (fault_of a words) error)
    → IsErrAnd r (IsFaultOf error) → IfErr r (HasCause words)
has_cause a words error (Ok order) is kinds told = tt
has_cause a words error (Err NoMemory) is kinds told = tt
has_cause a words error (Err (Usage given)) is kinds told =
    let among = subst (λ (x : App). HasKind (fault_of x words) error) is (kinds (ap is_simple_and_free is ∙ ringd_app_is_simple)) in
    elim among [
      | inl memory ↦ absurd (told.1 memory)
      | inr kind ↦ subst (λ (e : Error). IsAmong (kind_of e) (fault_of ringd_app words)) (sym told.0) kind
    ]

-- so has a fault for memory
pub memory_is_cause : (words : List Text) (r : Result Order WordsFault) → IsOkUnless r NoMemory → IfErr r (HasCause words)
memory_is_cause words (Ok order) is = tt
memory_is_cause words (Err fault) is = subst (HasCause words) (sym is) tt

-- The promises of a call about its result, for any words. An order is theirs, and a fault has its
-- cause. The fault is for memory if nothing else may fail.
pub record IsWantOfMemory (words : List Text) (r : Result Order WordsFault) : Type 0 where
  pub order : IfOk r (IsGiven words)
  pub usage : IfErr r (HasCause words)
  pub only : IsOkUnless r NoMemory

-- a refusal for memory keeps all these promises
pub want_of_memory : (words : List Text) (r : Result Order WordsFault) → IsErrAnd r (λ fault. fault ≡ NoMemory) → IsWantOfMemory words r
want_of_memory words (Ok order) is = absurd is
want_of_memory words (Err fault) is = record { order = tt; usage = memory_is_cause words (Err fault) is; only = is }
