use Rattle.std.proofs.Common.{◌≡◌, codes, rules}
use Rattle.clap.specs.Words.{app_of, new_app}
use Rattle.ring_words.specs.private.Words.{IsLocal}
use Rattle.ring_words.specs.Words.{file_rule}
use Rattle.ring_words.proofs.Adding.{stays_local_if_ok, with_arg_if_ok}
use Rattle.ring_words.proofs.commands.journal_command.Goals as goal

pub returns-clause-app : goal.returns-clause-app
returns-clause-app c =
    let start : app_of c.about.result ≡ new_app (codes "journal") = search rules in
    with_arg_if_ok c.arg.result c.about.result c.file_arg.result (new_app (codes "journal")) file_rule c.arg.ensures c.file_arg.ensures.own c.file_arg.ensures.rule start

pub returns-clause-local : goal.returns-clause-local
returns-clause-local c =
    let start : IsLocal c.about.result = search rules in
    stays_local_if_ok c.arg.result c.about.result c.file_arg.result c.arg.ensures c.file_arg.ensures.own start
