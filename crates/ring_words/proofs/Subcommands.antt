-- A parse of words that have no mistake meets no subcommand `help`: that word asks for help.
use Rattle.std.proofs.Common.{◌≡◌, ◌∙◌, ◌&&◌, Bool, codes, cond, true, false, not, refl, sym, ap, subst, List, [], ◌∷◌, ◌++◌, Option, Some, None, is_some, fold}
use Rattle.std.specs.Prelude.{⊤}
use Rattle.std.specs.Str.{bytes_eq}
use Rattle.clap.specs.Lexer.{long_of, short_of}
use Rattle.clap.specs.Walk.{Held, Names, Outcome, Rule, Step, Text, Waiting, Walk}
use Rattle.clap.specs.Walk.{after_flag, after_step, arg_by_index, bundle, long_met, arg_by_long, long_or_other, plain_word, short_or_plain, subcommand_met, subcommand_or_other, to_positional, walked, walked_from, word_met}
use Rattle.clap.specs.Walk.{done, waits, plain, refused, idle, option, positional, next, trailing, subcommand, value}
use Rattle.clap.specs.Simple.{Shape}
use Rattle.clap.specs.Kinds.{Kinds, or_else}
use Rattle.clap.specs.Faults.{other_fault, step_fault, turn_fault, walk_fault, word_fault}
use Rattle.clap.specs.declared.error.kind.ErrorKind.TheVariants.{DisplayHelp, InvalidSubcommand}

-- no subcommand was met, or one of another name than `help`
abbrev pub AvoidsHelp : Option (Text × List Text) → Type 0
AvoidsHelp None = ⊤
AvoidsHelp (Some p) = bytes_eq p.0 (codes "help") ≡ false

-- if two steps have no mistake, the first has none, and the second has none
pub first_has_none : (a b : Kinds) → or_else a b ≡ [] → a ≡ []
first_has_none [] b none = refl
first_has_none (k ∷ ks) b none = none

pub second_has_none : (a b : Kinds) → or_else a b ≡ [] → b ≡ []
second_has_none [] b none = none
second_has_none (k ∷ ks) b none = absurd (cc)

-- the word names no subcommand
abbrev IsOther : Step → Type 0
IsOther (next waiting) = ⊤
IsOther (trailing position) = ⊤
IsOther (subcommand name) = ⊥
IsOther value = ⊤

module _ (c : List Rule) (waiting : Waiting) (word : Text) where
  plain_is_other : (h : Held) → IsOther (plain_word c waiting word h).1
  plain_is_other h = go waiting
    where
      go : (w : Waiting) → IsOther (plain_word c w word h).1
      go idle = tt
      go (option id) = tt
      go positional = tt

  flag_is_other : (h : Held) (o : Outcome) → IsOther (after_flag c waiting word h o).1
  flag_is_other h done = tt
  flag_is_other h (waits id) = tt
  flag_is_other h plain = plain_is_other h
  flag_is_other h refused = plain_is_other h

  short_is_other : (h : Held) (flags : Option Text) → IsOther (short_or_plain c waiting word flags h).1
  short_is_other h None = plain_is_other h
  short_is_other h (Some flags) = flag_is_other (bundle c flags h).0 (bundle c flags h).1

  long_is_other : (h : Held) (flag : Option (Text × Option Text)) → IsOther (long_or_other c waiting word flag h).1
  long_is_other h None = short_is_other h (short_of word)
  long_is_other h (Some p) = flag_is_other (long_met c (arg_by_long c p.0) p.1 h).0 (long_met c (arg_by_long c p.0) p.1 h).1

-- a step of another kind meets no subcommand
goes_on : (c : List Rule) (word : Text) (w : Walk) (h : Held) (step : Step) → w.stopped ≡ None → IsOther step → (after_step c word w h step).stopped ≡ None
goes_on c word w h (next waiting) none other = none
goes_on c word w h (trailing position) none other = none
goes_on c word w h (subcommand name) none other = absurd other
goes_on c word w h value none other = go (arg_by_index c w.position)
  where
    go : (a : Option Rule) → (to_positional c a word w h).stopped ≡ None
    go None = none
    go (Some a) = refl

-- a subcommand that has no mistake is not `help`
named_avoids_help : (s : Shape) (name word : Text) (h : Held) → s.disable_help_subcommand ≡ false → other_fault s (Some name) word h ≡ [] → bytes_eq name (codes "help") ≡ false
named_avoids_help s name word h enabled none = go (bytes_eq name (codes "help")) (ap (λ (b : Bool). asks (bytes_eq name (codes "help")) b) (sym enabled) ∙ none)
  where
    asks : Bool → Bool → Kinds
    asks is_help disabled = cond (is_help && not disabled) (DisplayHelp ∷ InvalidSubcommand ∷ []) []

    go : (b : Bool) → asks b false ≡ [] → b ≡ false
    go true bad = absurd (cc)
    go false fine = refl

-- if a word outside the trailing part has no mistake, the walk after it has met no `help`
free_word_avoids_help : (s : Shape) (w : Walk) (word : Text) (met : Option Text) → s.disable_help_subcommand ≡ false → w.stopped ≡ None → other_fault s met word w.held ≡ []
    → let taken : Held × Step = subcommand_or_other s.rules met w.waiting w.position word w.held in AvoidsHelp (after_step s.rules word w taken.0 taken.1).stopped
free_word_avoids_help s w word (Some name) enabled on none = named_avoids_help s name word w.held enabled none
free_word_avoids_help s w word None enabled on none = go (bytes_eq word (45 ∷ 45 ∷ []))
  where
    taken : Bool → Held × Step
    taken b = cond b (w.held, trailing w.position) (long_or_other s.rules w.waiting word (long_of word) w.held)

    go : (b : Bool) → AvoidsHelp (after_step s.rules word w (taken b).0 (taken b).1).stopped
    go true = subst AvoidsHelp (sym on) tt
    go false = subst AvoidsHelp (sym (goes_on s.rules word w (taken false).0 (taken false).1 on (long_is_other s.rules w.waiting word w.held (long_of word)))) tt

-- if a word has no mistake, the walk after it has met no `help`
word_avoids_help : (s : Shape) (names : Names) (w : Walk) (word : Text) → s.disable_help_subcommand ≡ false → w.stopped ≡ None
    → word_fault s names w.is_trailing w.waiting word w.held ≡ [] → AvoidsHelp (walked s.rules names w word).stopped
unfolding walked
word_avoids_help s names w word enabled on none =
    subst (λ (o : Option (Text × List Text)). AvoidsHelp (walked_from s.rules names o w word).stopped) (sym on) (go w.is_trailing none)
  where
    taken : Bool → Held × Step
    taken b = word_met s.rules names b w.waiting w.position word w.held

    go : (b : Bool) → word_fault s names b w.waiting word w.held ≡ [] → AvoidsHelp (after_step s.rules word w (taken b).0 (taken b).1).stopped
    go true fine = subst AvoidsHelp (sym (goes_on s.rules word w w.held value on tt)) tt
    go false fine = free_word_avoids_help s w word (subcommand_met names w.waiting word) enabled on fine

-- a walk that has met a subcommand keeps its name
keeps_name : (c : List Rule) (names : Names) (w : Walk) (p : Text × List Text) (words : List Text) → w.stopped ≡ Some p → AvoidsHelp (Some p) → AvoidsHelp (fold (walked c names) w words).stopped
unfolding walked
keeps_name c names w p [] met avoids = subst AvoidsHelp (sym met) avoids
keeps_name c names w p (word ∷ words) met avoids =
    keeps_name c names (walked c names w word) (p.0, p.1 ++ word ∷ []) words (ap (λ (o : Option (Text × List Text)). (walked_from c names o w word).stopped) met) avoids

-- if the words have no mistake, the walk over them meets no `help`
pub walk_avoids_help : (s : Shape) (names : Names) (w : Walk) (words : List Text) → s.disable_help_subcommand ≡ false → w.stopped ≡ None → walk_fault s names w words ≡ []
    → AvoidsHelp (fold (walked s.rules names) w words).stopped
unfolding walk_fault
walk_avoids_help s names w [] enabled on none = subst AvoidsHelp (sym on) tt
walk_avoids_help s names w (word ∷ words) enabled on none =
    go (λ on_still. walk_avoids_help s names after words enabled on_still (second_has_none (turn_fault s names w word) (walk_fault s names after words) none)) after.stopped refl
  where
    after : Walk
    after = walked s.rules names w word

    met_before : Held × Step
    met_before = word_met s.rules names w.is_trailing w.waiting w.position word w.held

    of_word : Kinds
    of_word = word_fault s names w.is_trailing w.waiting word w.held

    of_step : Kinds
    of_step = step_fault s w.position met_before.0 met_before.1

    turn_has_none : turn_fault s names w word ≡ []
    turn_has_none = first_has_none (turn_fault s names w word) (walk_fault s names after words) none

    word_has_none : of_word ≡ []
    word_has_none = first_has_none of_word of_step (ap (λ (o : Option (Text × List Text)). cond (is_some o) [] (or_else of_word of_step)) (sym on) ∙ turn_has_none)

    end_avoids : Type 0
    end_avoids = AvoidsHelp (fold (walked s.rules names) after words).stopped

    go : (after.stopped ≡ None → end_avoids) → (o : Option (Text × List Text)) → after.stopped ≡ o → end_avoids
    go later None on_still = later on_still
    go later (Some p) met = keeps_name s.rules names after p words met (subst AvoidsHelp met (word_avoids_help s names w word enabled on word_has_none))
