use Rattle.std.proofs.Common.{◌≡◌, codes, rules}
use Rattle.clap.specs.Words.{App, app_of, new_app, with_rule}
use Rattle.ring_words.specs.private.Words.{IsLocal}
use Rattle.ring_words.specs.Words.{campaign_rule, config_rule, http_rule, idle_rule, kept_rule, mode_rule, places_rule, sessions_rule, socket_rule}
use Rattle.ring_words.proofs.Adding.{stays_local_if_ok, with_arg_if_ok}
use Rattle.ring_words.proofs.commands.run_command.Goals as goal

pub returns-clause-app : goal.returns-clause-app
returns-clause-app c =
    let start : app_of c.about.result ≡ new_app (codes "run") = search rules in
    let one : App = with_rule (new_app (codes "run")) config_rule in
    let two : App = with_rule one sessions_rule in
    let three : App = with_rule two idle_rule in
    let is_one =
    with_arg_if_ok c.arg-command.result c.about.result c.config_arg.result (new_app (codes "run")) config_rule c.arg-command.ensures c.config_arg.ensures.own c.config_arg.ensures.rule start in
    let is_two = c.with_arg-command.ensures.app one sessions_rule is_one c.sessions_arg.ensures.rule in
    let is_three = c.with_arg-command-2.ensures.app two idle_rule is_two c.idle_arg.ensures.rule in
    let four : App = with_rule three places_rule in
    let is_four = c.with_arg-command-3.ensures.app three places_rule is_three c.places_arg.ensures.rule in
    let five : App = with_rule four kept_rule in
    let is_five = c.with_arg-command-4.ensures.app four kept_rule is_four c.kept_arg.ensures.rule in
    let six : App = with_rule five campaign_rule in
    let is_six = c.with_arg-command-5.ensures.app five campaign_rule is_five c.campaign_arg.ensures.rule in
    let seven : App = with_rule six http_rule in
    let is_seven = c.with_arg-command-6.ensures.app six http_rule is_six c.http_arg.ensures.rule in
    let eight : App = with_rule seven socket_rule in
    let is_eight = c.with_arg-command-7.ensures.app seven socket_rule is_seven c.socket_arg.ensures.rule in
    c.with_arg.ensures.app eight mode_rule is_eight c.mode_arg.ensures.rule

pub returns-clause-local : goal.returns-clause-local
returns-clause-local c =
    let start : IsLocal c.about.result = search rules in
    let one = stays_local_if_ok c.arg-command.result c.about.result c.config_arg.result c.arg-command.ensures c.config_arg.ensures.own start in
    let two = c.with_arg-command-3.ensures.local (c.with_arg-command-2.ensures.local (c.with_arg-command.ensures.local one)) in
    let three = c.with_arg-command-6.ensures.local (c.with_arg-command-5.ensures.local (c.with_arg-command-4.ensures.local two)) in
    c.with_arg.ensures.local (c.with_arg-command-7.ensures.local three)
