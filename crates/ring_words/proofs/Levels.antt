-- One level of a command line. If each use of an argument without a mistake keeps a fact of the
-- rows true, words without a mistake keep it true. It holds of every command.
use Rattle.std.proofs.Common.{◌≡◌, ◌&&◌, Bool, ℕ, zero, suc, cond, true, false, not, List, [], ◌∷◌, ◌++◌, length, drop, Option, Some, None, is_some, fold}
use Rattle.std.specs.Prelude.{⊤, find, encode_utf8, slice_get}
use Rattle.std.specs.Option.{option_map_or}
use Rattle.std.specs.Str.{bytes_eq, chars}
use Rattle.clap.specs.Lexer.{long_of, short_of}
use Rattle.clap.specs.Kinds.{Kinds, or_else}
use Rattle.clap.specs.declared.error.kind.ErrorKind.TheVariants.{TooManyValues}
use Rattle.clap.specs.Walk.{Held, Names, Outcome, Row, Rule, Step, Text, Waiting, Walk}
use Rattle.clap.specs.Walk.{done, waits, plain, refused, idle, option, positional, next, trailing, subcommand, value}
use Rattle.clap.specs.Walk.{after_flag, after_step, arg_by_id, arg_by_index, arg_by_long, arg_by_short, at_row, attached_value, bundle, bundle_met, bundle_step, flag_met, has_short, has_long, is_pending, long_met, long_or_other, option_met, option_word, plain_word, pushed, reacted, settled, settled_rows, short_met, short_or_plain, subcommand_met, subcommand_or_other, takes_several, takes_values, to_positional, used, used_by_id, walked, walked_from, word_met}
use Rattle.clap.specs.Simple.{Shape}
use Rattle.clap.specs.Faults.{bundle_step_fault, flag_word_fault, flags_fault, long_fault, option_fault, other_fault, positional_fault, react_fault, settle_fault, short_fault, step_fault, stray_fault, turn_fault, use_fault, walk_fault, word_fault}
use Rattle.ring_words.proofs.Subcommands.{first_has_none, second_has_none}

-- this holds of each row
abbrev pub Each : (Row → Type 0) → List Row → Type 0
Each good [] = ⊤
Each good (row ∷ rows) = good row × Each good rows

-- it holds of two lists put together
pub each_append : (good : Row → Type 0) (xs ys : List Row) → Each good xs → Each good ys → Each good (xs ++ ys)
each_append good [] ys a b = b
each_append good (x ∷ xs) ys a b = (a.0, each_append good xs ys a.1 b)

-- it holds if the first row of an id is changed, if the change keeps it
pub each_at_row : (good : Row → Type 0) (id : Text) (change : Row → List Row) (missing rows : List Row) → ((row : Row) → good row → Each good (change row)) → Each good missing → Each good rows
    → Each good (at_row id change missing rows)
each_at_row good id change missing [] keeps added all = added
each_at_row good id change missing (row ∷ rows) keeps added all = go (bytes_eq row.id id) (each_at_row good id change missing rows keeps added all.1)
  where
    go : (b : Bool) → Each good (at_row id change missing rows) → Each good (cond b (change row ++ rows) (row ∷ at_row id change missing rows))
    go true later = each_append good (change row) rows (keeps row all.0) all.1
    go false later = (all.0, later)

module _ (s : Shape) (good : Row → Type 0) where
  -- a use of the argument that has no mistake keeps it
  abbrev pub Keeps : Rule → Type 0
  Keeps a = (values : List Text) (rows : List Row) → Each good rows → use_fault s.args_override_self a values rows ≡ [] → Each good (used a values rows)

  -- and so for each argument of a list, and for an argument if there is one
  abbrev pub EachKeeps : List Rule → Type 0
  EachKeeps [] = ⊤
  EachKeeps (a ∷ rest) = Keeps a × EachKeeps rest

  abbrev pub KeepsIfSome : Option Rule → Type 0
  KeepsIfSome None = ⊤
  KeepsIfSome (Some a) = Keeps a

  found_keeps : (p : Rule → Bool) (xs : List Rule) → EachKeeps xs → KeepsIfSome (find p xs)
  found_keeps p [] all = tt
  found_keeps p (x ∷ xs) all = go (p x) (found_keeps p xs all.1)
    where
      go : (b : Bool) → KeepsIfSome (find p xs) → KeepsIfSome (cond b (Some x) (find p xs))
      go true later = all.0
      go false later = later

  module _ (keeps : EachKeeps s.rules) where
    -- the argument that waits is used
    pub settled_keeps : (h : Held) → Each good h.rows → settle_fault s.rules s.args_override_self h ≡ [] → Each good (settled s.rules h).rows
    settled_keeps h all = go h.pending
      where
        used_keeps : (values : List Text) (o : Option Rule) → KeepsIfSome o → option_map_or (λ (a : Rule). use_fault s.args_override_self a values h.rows) o [] ≡ [] → Each good (used_by_id o values h.rows)
        used_keeps values None kept none = all
        used_keeps values (Some a) kept none = kept values h.rows all none

        go : (p : Option (Text × List Text))
            → option_map_or (λ (q : Text × List Text). option_map_or (λ (a : Rule). use_fault s.args_override_self a q.1 h.rows) (arg_by_id s.rules q.0) []) p [] ≡ []
            → Each good (settled_rows s.rules p h.rows)
        go None none = all
        go (Some p) none = used_keeps p.1 (arg_by_id s.rules p.0) (found_keeps (λ (a : Rule). bytes_eq a.id p.0) s.rules keeps) none

    -- an argument is used after the one that waits
    reacted_keeps : (a : Rule) (values : List Text) (h : Held) → Keeps a → Each good h.rows → react_fault s.rules s.args_override_self a values h ≡ [] → Each good (reacted s.rules a values h).rows
    reacted_keeps a values h kept all none =
        kept values (settled s.rules h).rows
        (settled_keeps h all (first_has_none (settle_fault s.rules s.args_override_self h) (use_fault s.args_override_self a values (settled s.rules h).rows) none))
        (second_has_none (settle_fault s.rules s.args_override_self h) (use_fault s.args_override_self a values (settled s.rules h).rows) none)

    option_keeps : (a : Rule) (v : Option Text) (h : Held) → Keeps a → Each good h.rows → option_fault s.rules s.args_override_self a v h ≡ [] → Each good (option_met s.rules a v h).0.rows
    option_keeps a (Some v) h kept all none = reacted_keeps a (v ∷ []) h kept all none
    option_keeps a None h kept all none = settled_keeps h all none

    flag_keeps : (a : Rule) (v : Option Text) (h : Held) → Keeps a → Each good h.rows
        → cond (is_some v) (TooManyValues ∷ []) (react_fault s.rules s.args_override_self a [] h) ≡ [] → Each good (flag_met s.rules a v h).0.rows
    flag_keeps a (Some v) h kept all none = all
    flag_keeps a None h kept all none = reacted_keeps a [] h kept all none

    long_keeps : (o : Option Rule) (v : Option Text) (h : Held) → KeepsIfSome o → Each good h.rows → long_fault s.rules s.args_override_self o v h ≡ [] → Each good (long_met s.rules o v h).0.rows
    long_keeps None v h kept all none = all
    long_keeps (Some a) v h kept all none = go (takes_values a) none
      where
        go : (b : Bool) → cond b (option_fault s.rules s.args_override_self a v h) (cond (is_some v) (TooManyValues ∷ []) (react_fault s.rules s.args_override_self a [] h)) ≡ []
            → Each good (cond b (option_met s.rules a v h) (flag_met s.rules a v h)).0.rows
        go true fine = option_keeps a v h kept all fine
        go false fine = flag_keeps a v h kept all fine

    short_keeps : (o : Option Rule) (rest : Text) (h : Held) (then_met : Held → Held × Outcome) (then_fault : Held → Kinds)
        → ((g : Held) → Each good g.rows → then_fault g ≡ [] → Each good (then_met g).0.rows)
        → KeepsIfSome o → Each good h.rows → short_fault s.rules s.args_override_self o rest h then_fault ≡ [] → Each good (short_met s.rules o rest h then_met).0.rows
    short_keeps None rest h then_met then_fault later kept all none = all
    short_keeps (Some a) rest h then_met then_fault later kept all none = go (takes_values a) none
      where
        go : (b : Bool)
            → cond b (option_fault s.rules s.args_override_self a (attached_value rest) h) (or_else (react_fault s.rules s.args_override_self a [] h) (then_fault (reacted s.rules a [] h))) ≡ []
            → Each good (cond b (option_met s.rules a (attached_value rest) h) (then_met (reacted s.rules a [] h))).0.rows
        go true fine = option_keeps a (attached_value rest) h kept all fine
        go false fine =
            later (reacted s.rules a [] h)
            (reacted_keeps a [] h kept all (first_has_none (react_fault s.rules s.args_override_self a [] h) (then_fault (reacted s.rules a [] h)) fine))
            (second_has_none (react_fault s.rules s.args_override_self a [] h) (then_fault (reacted s.rules a [] h)) fine)

    bundle_step_keeps : (x : Option ℕ) (flags : Text) (skip : ℕ) (so_far : Outcome) (h : Held) (then_met : Text → ℕ → Outcome → Held → Held × Outcome) (then_fault : Text → ℕ → Held → Kinds)
        → ((rest : Text) (k : ℕ) (o : Outcome) (g : Held) → Each good g.rows → then_fault rest k g ≡ [] → Each good (then_met rest k o g).0.rows)
        → Each good h.rows → bundle_step_fault s.rules s.args_override_self x flags skip h then_fault ≡ [] → Each good (bundle_step s.rules x flags skip so_far h then_met).0.rows
    bundle_step_keeps None flags skip so_far h then_met then_fault later all none = all
    bundle_step_keeps (Some x) flags zero so_far h then_met then_fault later all none =
        let rest : Text = drop (length (encode_utf8 x)) flags in
        short_keeps (arg_by_short s.rules x) rest h (then_met rest 0 done) (then_fault rest 0) (later rest 0 done)
        (found_keeps (λ (a : Rule). not (is_some a.index) && has_short a x) s.rules keeps) all none
    bundle_step_keeps (Some x) flags (suc skip) so_far h then_met then_fault later all none = later (drop (length (encode_utf8 x)) flags) skip so_far h all none

    flags_keep : (k : ℕ) (flags : Text) (skip : ℕ) (so_far : Outcome) (h : Held) → Each good h.rows → flags_fault s.rules s.args_override_self k flags skip h ≡ []
        → Each good (bundle_met s.rules k flags skip so_far h).0.rows
    unfolding flags_fault bundle_met
    flags_keep zero flags skip so_far h all none = all
    flags_keep (suc k) flags skip so_far h all none =
        bundle_step_keeps (slice_get (chars flags) 0) flags skip so_far h (bundle_met s.rules k) (flags_fault s.rules s.args_override_self k)
        (λ rest n o g good_rows fine. flags_keep k rest n o g good_rows fine) all none

    -- a word that is no flag
    plain_keeps : (w : Waiting) (word : Text) (h : Held) → Each good h.rows → Each good (plain_word s.rules w word h).0.rows
    plain_keeps idle word h all = all
    plain_keeps positional word h all = all
    plain_keeps (option id) word h all = go (arg_by_id s.rules id)
      where
        go : (o : Option Rule) → Each good (option_word o id word h).0.rows
        go None = all
        go (Some a) = all

    after_flag_keeps : (w : Waiting) (word : Text) (h : Held) (o : Outcome) → Each good h.rows → Each good (after_flag s.rules w word h o).0.rows
    after_flag_keeps w word h done all = all
    after_flag_keeps w word h (waits id) all = all
    after_flag_keeps w word h plain all = plain_keeps w word h all
    after_flag_keeps w word h refused all = plain_keeps w word h all

    flag_word_keeps : (w : Waiting) (word : Text) (flag : Option (Text × Option Text)) (h : Held) → Each good h.rows → flag_word_fault s.rules s.args_override_self flag word h ≡ []
        → Each good (long_or_other s.rules w word flag h).0.rows
    flag_word_keeps w word (Some p) h all none =
        let met : Held × Outcome = long_met s.rules (arg_by_long s.rules p.0) p.1 h in
        after_flag_keeps w word met.0 met.1
        (long_keeps (arg_by_long s.rules p.0) p.1 h (found_keeps (λ (a : Rule). not (is_some a.index) && has_long a p.0) s.rules keeps) all none)
    flag_word_keeps w word None h all none = go (short_of word) none
      where
        go : (o : Option Text) → option_map_or (λ (flags : Text). flags_fault s.rules s.args_override_self (length flags) flags h.skip (record h { skip = 0 })) o [] ≡ []
            → Each good (short_or_plain s.rules w word o h).0.rows
        go None fine = plain_keeps w word h all
        go (Some flags) fine =
            after_flag_keeps w word (bundle s.rules flags h).0 (bundle s.rules flags h).1
            (flags_keep (length flags) flags h.skip plain (record h { skip = 0 }) all fine)

    other_keeps : (w : Waiting) (position : ℕ) (met : Option Text) (word : Text) (h : Held) → Each good h.rows → other_fault s met word h ≡ []
        → Each good (subcommand_or_other s.rules met w position word h).0.rows
    other_keeps w position (Some name) word h all none = all
    other_keeps w position None word h all none = go (bytes_eq word (45 ∷ 45 ∷ [])) none
      where
        go : (b : Bool) → cond b [] (flag_word_fault s.rules s.args_override_self (long_of word) word h) ≡ []
            → Each good (cond b (h, trailing position) (long_or_other s.rules w word (long_of word) h)).0.rows
        go true fine = all
        go false fine = flag_word_keeps w word (long_of word) h all fine

    -- what the walk makes of a step
    step_keeps : (word : Text) (w : Walk) (h : Held) (step : Step) → Each good h.rows → step_fault s w.position h step ≡ [] → Each good (after_step s.rules word w h step).held.rows
    step_keeps word w h (next waiting) all none = all
    step_keeps word w h (trailing position) all none = all
    step_keeps word w h (subcommand name) all none = all
    step_keeps word w h value all none = go (arg_by_index s.rules w.position) none
      where
        waited : (a : Rule) (b : Bool) → cond b [] (settle_fault s.rules s.args_override_self h) ≡ [] → Each good (pushed a.id word (cond b h (settled s.rules h))).rows
        waited a true fine = all
        waited a false fine = settled_keeps h all fine

        go : (o : Option Rule) → option_map_or (λ (a : Rule). positional_fault s.rules s.args_override_self a h) o (stray_fault s) ≡ []
            → Each good (to_positional s.rules o word w h).held.rows
        go None fine = all
        go (Some a) fine = waited a (is_pending a h.pending && takes_several a) fine

    turn_keeps : (names : Names) (w : Walk) (word : Text) → Each good w.held.rows → turn_fault s names w word ≡ [] → Each good (walked s.rules names w word).held.rows
    unfolding walked
    turn_keeps names w word all none = go w.stopped none
      where
        taken : Bool → Held × Step
        taken b = word_met s.rules names b w.waiting w.position word w.held

        met : (b : Bool) → or_else (word_fault s names b w.waiting word w.held) (step_fault s w.position (taken b).0 (taken b).1) ≡ []
            → Each good (after_step s.rules word w (taken b).0 (taken b).1).held.rows
        met true fine = step_keeps word w w.held value all fine
        met false fine =
            step_keeps word w (taken false).0 (taken false).1
            (other_keeps w.waiting w.position (subcommand_met names w.waiting word) word w.held all
            (first_has_none (word_fault s names false w.waiting word w.held) (step_fault s w.position (taken false).0 (taken false).1) fine))
            (second_has_none (word_fault s names false w.waiting word w.held) (step_fault s w.position (taken false).0 (taken false).1) fine)

        go : (o : Option (Text × List Text))
            → cond (is_some o) [] (or_else (word_fault s names w.is_trailing w.waiting word w.held) (step_fault s w.position (taken w.is_trailing).0 (taken w.is_trailing).1)) ≡ []
            → Each good (walked_from s.rules names o w word).held.rows
        go (Some p) fine = all
        go None fine = met w.is_trailing fine

    -- a walk over words that have no mistake keeps it
    pub walk_keeps : (names : Names) (w : Walk) (words : List Text) → Each good w.held.rows → walk_fault s names w words ≡ [] → Each good (fold (walked s.rules names) w words).held.rows
    unfolding walk_fault
    walk_keeps names w [] all none = all
    walk_keeps names w (word ∷ words) all none =
        walk_keeps names (walked s.rules names w word) words
        (turn_keeps names w word all (first_has_none (turn_fault s names w word) (walk_fault s names (walked s.rules names w word) words) none))
        (second_has_none (turn_fault s names w word) (walk_fault s names (walked s.rules names w word) words) none)
