use Rattle.std.proofs.Common.{◌≡◌, codes, rules}
use Rattle.clap.specs.Words.{App, app_of, new_app, with_rule}
use Rattle.ring_words.specs.private.Words.{IsLocal}
use Rattle.ring_words.specs.Words.{config_rule, connections_rule, mode_rule, socket_rule}
use Rattle.ring_words.proofs.Adding.{stays_local_if_ok, with_arg_if_ok}
use Rattle.ring_words.proofs.commands.serve_command.Goals as goal

pub returns-clause-app : goal.returns-clause-app
returns-clause-app c =
    let start : app_of c.about.result ≡ new_app (codes "serve") = search rules in
    let one : App = with_rule (new_app (codes "serve")) config_rule in
    let two : App = with_rule one connections_rule in
    let three : App = with_rule two socket_rule in
    let is_one =
    with_arg_if_ok c.arg-command.result c.about.result c.config_arg.result (new_app (codes "serve")) config_rule c.arg-command.ensures c.config_arg.ensures.own c.config_arg.ensures.rule start in
    let is_two = c.with_arg-command.ensures.app one connections_rule is_one c.connections_arg.ensures.rule in
    let is_three = c.with_arg-command-2.ensures.app two socket_rule is_two c.socket_arg.ensures.rule in
    c.with_arg.ensures.app three mode_rule is_three c.mode_arg.ensures.rule

pub returns-clause-local : goal.returns-clause-local
returns-clause-local c =
    let start : IsLocal c.about.result = search rules in
    let one = stays_local_if_ok c.arg-command.result c.about.result c.config_arg.result c.arg-command.ensures c.config_arg.ensures.own start in
    c.with_arg.ensures.local (c.with_arg-command-2.ensures.local (c.with_arg-command.ensures.local one))
