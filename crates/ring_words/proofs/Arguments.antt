-- The arguments of each subcommand, and what its rules keep of the rows of one argument.
use Rattle.std.proofs.Common.{◌≡◌, false, refl, [], ◌∷◌, length}
use Rattle.std.specs.Prelude.{slice_get, unwrap_or}
use Rattle.std.specs.Str.{bytes_eq}
use Rattle.clap.specs.Kinds.{range_kinds}
use Rattle.clap.specs.Walk.{Row, Rule}
use Rattle.clap.specs.declared.error.kind.ErrorKind.TheVariants.{DisplayHelp}
use Rattle.ring_words.specs.Words.{config_rule}
use Rattle.ring_words.proofs.CommandLine.{journal_below, run_below, serve_below}
use Rattle.ring_words.proofs.Levels.{EachKeeps, Keeps}
use Rattle.ring_words.proofs.Rows.{IsRead, KeepDefaults, flag_keeps, no_default, other_default, other_use, own_use, set_keeps}
use Rattle.ring_words.proofs.Subcommands.{second_has_none}

-- the arguments of `serve`, as a parse reads them
abbrev pub serve_config : Rule
serve_config = unwrap_or (slice_get serve_below.rules 0) config_rule

abbrev pub serve_connections : Rule
serve_connections = unwrap_or (slice_get serve_below.rules 1) config_rule

abbrev serve_socket : Rule
serve_socket = unwrap_or (slice_get serve_below.rules 2) config_rule

abbrev serve_mode : Rule
serve_mode = unwrap_or (slice_get serve_below.rules 3) config_rule

-- those of `run`
abbrev pub run_config : Rule
run_config = unwrap_or (slice_get run_below.rules 0) config_rule

abbrev pub run_sessions : Rule
run_sessions = unwrap_or (slice_get run_below.rules 1) config_rule

abbrev pub run_idle : Rule
run_idle = unwrap_or (slice_get run_below.rules 2) config_rule

abbrev run_places : Rule
run_places = unwrap_or (slice_get run_below.rules 3) config_rule

abbrev run_journal : Rule
run_journal = unwrap_or (slice_get run_below.rules 4) config_rule

abbrev run_campaign : Rule
run_campaign = unwrap_or (slice_get run_below.rules 5) config_rule

abbrev run_http : Rule
run_http = unwrap_or (slice_get run_below.rules 6) config_rule

abbrev run_socket : Rule
run_socket = unwrap_or (slice_get run_below.rules 7) config_rule

abbrev run_mode : Rule
run_mode = unwrap_or (slice_get run_below.rules 8) config_rule

-- the argument of `journal`
abbrev pub journal_file : Rule
journal_file = unwrap_or (slice_get journal_below.rules 0) config_rule

-- the help flag of each
abbrev pub help_flag : Rule
help_flag = unwrap_or (slice_get serve_below.rules 4) config_rule

-- a use of the help flag never keeps anything from being answered by help
pub help_keeps : (good : Row → Type 0) → Keeps serve_below good help_flag
help_keeps good values rows all none =
    let asked : DisplayHelp ∷ [] ≡ [] = second_has_none (range_kinds 0 0 (length values)) (DisplayHelp ∷ []) none in
    absurd (cc)

-- each argument of `serve` keeps the rows of its file well read, and those of its number
pub serve_keeps_config : EachKeeps serve_below (IsRead serve_config) serve_below.rules
serve_keeps_config = (
  set_keeps false serve_config serve_config (own_use serve_config) refl,
  (
    set_keeps false serve_config serve_connections (other_use serve_config serve_connections refl) refl,
    (
      set_keeps false serve_config serve_socket (other_use serve_config serve_socket refl) refl,
      (
        set_keeps false serve_config serve_mode (other_use serve_config serve_mode refl) refl,
        (
          help_keeps (IsRead serve_config),
          tt,
        ),
      ),
    ),
  ),
)

pub serve_keeps_connections : EachKeeps serve_below (IsRead serve_connections) serve_below.rules
serve_keeps_connections = (
  set_keeps false serve_connections serve_config (other_use serve_connections serve_config refl) refl,
  (
    set_keeps false serve_connections serve_connections (own_use serve_connections) refl,
    (
      set_keeps false serve_connections serve_socket (other_use serve_connections serve_socket refl) refl,
      (
        set_keeps false serve_connections serve_mode (other_use serve_connections serve_mode refl) refl,
        (
          help_keeps (IsRead serve_connections),
          tt,
        ),
      ),
    ),
  ),
)

-- so does each argument of `run`
pub run_keeps_config : EachKeeps run_below (IsRead run_config) run_below.rules
run_keeps_config = (
  set_keeps false run_config run_config (own_use run_config) refl,
  (
    set_keeps false run_config run_sessions (other_use run_config run_sessions refl) refl,
    (
      set_keeps false run_config run_idle (other_use run_config run_idle refl) refl,
      (
        flag_keeps false run_config run_places refl refl,
        (
          set_keeps false run_config run_journal (other_use run_config run_journal refl) refl,
          (
            set_keeps false run_config run_campaign (other_use run_config run_campaign refl) refl,
            (
              set_keeps false run_config run_http (other_use run_config run_http refl) refl,
              (
                set_keeps false run_config run_socket (other_use run_config run_socket refl) refl,
                (
                  set_keeps false run_config run_mode (other_use run_config run_mode refl) refl,
                  (
                    help_keeps (IsRead run_config),
                    tt,
                  ),
                ),
              ),
            ),
          ),
        ),
      ),
    ),
  ),
)

pub run_keeps_sessions : EachKeeps run_below (IsRead run_sessions) run_below.rules
run_keeps_sessions = (
  set_keeps false run_sessions run_config (other_use run_sessions run_config refl) refl,
  (
    set_keeps false run_sessions run_sessions (own_use run_sessions) refl,
    (
      set_keeps false run_sessions run_idle (other_use run_sessions run_idle refl) refl,
      (
        flag_keeps false run_sessions run_places refl refl,
        (
          set_keeps false run_sessions run_journal (other_use run_sessions run_journal refl) refl,
          (
            set_keeps false run_sessions run_campaign (other_use run_sessions run_campaign refl) refl,
            (
              set_keeps false run_sessions run_http (other_use run_sessions run_http refl) refl,
              (
                set_keeps false run_sessions run_socket (other_use run_sessions run_socket refl) refl,
                (
                  set_keeps false run_sessions run_mode (other_use run_sessions run_mode refl) refl,
                  (
                    help_keeps (IsRead run_sessions),
                    tt,
                  ),
                ),
              ),
            ),
          ),
        ),
      ),
    ),
  ),
)

pub run_keeps_idle : EachKeeps run_below (IsRead run_idle) run_below.rules
run_keeps_idle = (
  set_keeps false run_idle run_config (other_use run_idle run_config refl) refl,
  (
    set_keeps false run_idle run_sessions (other_use run_idle run_sessions refl) refl,
    (
      set_keeps false run_idle run_idle (own_use run_idle) refl,
      (
        flag_keeps false run_idle run_places refl refl,
        (
          set_keeps false run_idle run_journal (other_use run_idle run_journal refl) refl,
          (
            set_keeps false run_idle run_campaign (other_use run_idle run_campaign refl) refl,
            (
              set_keeps false run_idle run_http (other_use run_idle run_http refl) refl,
              (
                set_keeps false run_idle run_socket (other_use run_idle run_socket refl) refl,
                (
                  set_keeps false run_idle run_mode (other_use run_idle run_mode refl) refl,
                  (
                    help_keeps (IsRead run_idle),
                    tt,
                  ),
                ),
              ),
            ),
          ),
        ),
      ),
    ),
  ),
)

-- no argument of `serve` has a default
pub serve_defaults : (wanted : Rule) → KeepDefaults (IsRead wanted) serve_below.rules
serve_defaults wanted = (
  no_default (IsRead wanted) serve_config refl,
  (
    no_default (IsRead wanted) serve_connections refl,
    (
      no_default (IsRead wanted) serve_socket refl,
      (
        no_default (IsRead wanted) serve_mode refl,
        (
          no_default (IsRead wanted) help_flag refl,
          tt,
        ),
      ),
    ),
  ),
)

-- the default of the flag of `run` keeps the rows of any other argument well read, and no other argument has one
pub run_defaults : (wanted : Rule) → bytes_eq run_places.id wanted.id ≡ false → KeepDefaults (IsRead wanted) run_below.rules
run_defaults wanted other = (
  no_default (IsRead wanted) run_config refl,
  (
    no_default (IsRead wanted) run_sessions refl,
    (
      no_default (IsRead wanted) run_idle refl,
      (
        other_default wanted run_places other,
        (
          no_default (IsRead wanted) run_journal refl,
          (
            no_default (IsRead wanted) run_campaign refl,
            (
              no_default (IsRead wanted) run_http refl,
              (
                no_default (IsRead wanted) run_socket refl,
                (
                  no_default (IsRead wanted) run_mode refl,
                  (
                    no_default (IsRead wanted) help_flag refl,
                    tt,
                  ),
                ),
              ),
            ),
          ),
        ),
      ),
    ),
  ),
)
