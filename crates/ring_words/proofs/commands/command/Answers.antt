use Rattle.std.proofs.Common.{◌≡◌, codes, rules, true}
use Rattle.clap.specs.Simple.{new_shape, on_top}
use Rattle.clap.specs.Words.{App, app_of, new_app, with_subcommand}
use Rattle.ring_words.specs.private.Words.{IsLocal}
use Rattle.ring_words.specs.Words.{journal_app, run_app, serve_app}
use Rattle.ring_words.proofs.Adding.{with_sub_if_ok}
use Rattle.ring_words.proofs.commands.command.Goals as goal

pub returns : goal.returns
returns c =
    let top : App = on_top (λ s. record s { subcommand_required = true; has_version = true }) (new_app (codes "ringd")) in
    let start : app_of c.subcommand_required.result ≡ top = search rules in
    let replay : app_of c.about-replay.result ≡ new_app (codes "replay") = search rules in
    let replay_local : IsLocal c.about-replay.result = search rules in
    let one : App = with_subcommand top (new_shape (codes "replay")) in
    let two : App = with_subcommand one serve_app.top in
    let is_one = with_sub_if_ok c.subcommand-command.result c.subcommand_required.result c.about-replay.result top (new_app (codes "replay")) c.subcommand-command.ensures replay_local replay start in
    let is_two = c.with_subcommand-command.ensures one serve_app is_one c.serve_command.ensures.local c.serve_command.ensures.app in
    let three : App = with_subcommand two run_app.top in
    let is_three = c.with_subcommand-command-2.ensures two run_app is_two c.run_command.ensures.local c.run_command.ensures.app in
    c.with_subcommand.ensures three journal_app is_three c.journal_command.ensures.local c.journal_command.ensures.app
