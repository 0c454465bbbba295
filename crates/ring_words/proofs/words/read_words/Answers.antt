use Rattle.std.proofs.Common.{◌∙◌, List, ap, inl, inr, map, subst, sym}
use Rattle.std.specs.Prelude.{string_bytes}
use Rattle.clap.specs.Words.{Text, app_of, found_of, rows_of, takes}
use Rattle.ring_words.specs.Words.{Names, ringd_app}
use Rattle.ring_words.proofs.CommandLine.{fails_for_memory, has_cause, meets, meets_one, memory_is_cause, names_one, replay_is_taken, want_of_memory}
use Rattle.ring_words.proofs.Taken.{journal_as_given, named_journal, named_runs, named_serves, runs_as_given, serves_as_given}
use Rattle.ring_words.proofs.words.read_words.Goals as goal

pub returns-in_err-matches-clause-replay : goal.returns-in_err-matches-clause-replay
returns-in_err-matches-clause-replay c = λ program are.
    fails_for_memory (app_of c.in_ok-command.field-0) (map string_bytes c.args.words.now) c.in_err-matches.field-0.0 c.from_residual-in_err-matches.result c.in_ok-command.ensures
    c.in_err-matches.ensures.passes c.from_residual-in_err-matches.ensures.1 (ap (λ (words : List Text). takes ringd_app words) are ∙ replay_is_taken program)

pub returns-in_err-matches-clause-usage : goal.returns-in_err-matches-clause-usage
returns-in_err-matches-clause-usage c =
    has_cause (app_of c.in_ok-command.field-0) (map string_bytes c.args.words.now) c.in_err-matches.field-0.0 c.from_residual-in_err-matches.result c.in_ok-command.ensures
    c.in_err-matches.ensures.kinds c.from_residual-in_err-matches.ensures.1

pub returns-in_err-matches-clause-taken : goal.returns-in_err-matches-clause-taken
returns-in_err-matches-clause-taken c =
    fails_for_memory (app_of c.in_ok-command.field-0) (map string_bytes c.args.words.now) c.in_err-matches.field-0.0 c.from_residual-in_err-matches.result c.in_ok-command.ensures
    c.in_err-matches.ensures.passes c.from_residual-in_err-matches.ensures.1

pub returns-in-replay-clause-order : goal.returns-in-replay-clause-order
returns-in-replay-clause-order c =
    let words = map string_bytes c.args.words.now in
    let rows = rows_of (found_of c.in-Some.given.now) in
    let names = meets (app_of c.in_ok-command.field-0) words c.in_ok-matches.matches c.in-Some.name.now rows c.in_ok-command.ensures c.in_ok-matches.ensures.kinds c.in_ok-matches.ensures.matches
    c.in-Some.ensures.name c.in-Some.ensures.rows in
    (rows, subst (λ (name : Text). Names words name rows) c.in-replay.is names)

pub serve_order-requires : goal.serve_order-requires
serve_order-requires c =
    let words = map string_bytes c.args.words.now in
    let rows = rows_of (found_of c.in-Some.given.now) in
    let names = meets (app_of c.in_ok-command.field-0) words c.in_ok-matches.matches c.in-Some.name.now rows c.in_ok-command.ensures c.in_ok-matches.ensures.kinds c.in_ok-matches.ensures.matches
    c.in-Some.ensures.name c.in-Some.ensures.rows in
    named_serves words rows (subst (λ (name : Text). Names words name rows) c.in-serve.is names)

pub returns-in-serve : goal.returns-in-serve
returns-in-serve c =
    let words = map string_bytes c.args.words.now in
    let rows = rows_of (found_of c.in-Some.given.now) in
    let names = meets (app_of c.in_ok-command.field-0) words c.in_ok-matches.matches c.in-Some.name.now rows c.in_ok-command.ensures c.in_ok-matches.ensures.kinds c.in_ok-matches.ensures.matches
    c.in-Some.ensures.name c.in-Some.ensures.rows in
    let told = c.serve_order.ensures in
    record {
      order = serves_as_given words rows c.serve_order.result (subst (λ (name : Text). Names words name rows) c.in-serve.is names) told.order;
      usage = memory_is_cause words c.serve_order.result told.only;
      taken = λ _. told.only;
      replay = λ _ _. told.only;
    }

pub run_order-requires : goal.run_order-requires
run_order-requires c =
    let words = map string_bytes c.args.words.now in
    let rows = rows_of (found_of c.in-Some.given.now) in
    let names = meets (app_of c.in_ok-command.field-0) words c.in_ok-matches.matches c.in-Some.name.now rows c.in_ok-command.ensures c.in_ok-matches.ensures.kinds c.in_ok-matches.ensures.matches
    c.in-Some.ensures.name c.in-Some.ensures.rows in
    named_runs words rows (subst (λ (name : Text). Names words name rows) c.in-run.is names)

pub returns-in-run : goal.returns-in-run
returns-in-run c =
    let words = map string_bytes c.args.words.now in
    let rows = rows_of (found_of c.in-Some.given.now) in
    let names = meets (app_of c.in_ok-command.field-0) words c.in_ok-matches.matches c.in-Some.name.now rows c.in_ok-command.ensures c.in_ok-matches.ensures.kinds c.in_ok-matches.ensures.matches
    c.in-Some.ensures.name c.in-Some.ensures.rows in
    let told = c.run_order.ensures in
    record {
      order = runs_as_given words rows c.run_order.result (subst (λ (name : Text). Names words name rows) c.in-run.is names) told.order;
      usage = memory_is_cause words c.run_order.result told.only;
      taken = λ _. told.only;
      replay = λ _ _. told.only;
    }

pub journal_order-requires : goal.journal_order-requires
journal_order-requires c =
    let words = map string_bytes c.args.words.now in
    let rows = rows_of (found_of c.in-Some.given.now) in
    let names = meets (app_of c.in_ok-command.field-0) words c.in_ok-matches.matches c.in-Some.name.now rows c.in_ok-command.ensures c.in_ok-matches.ensures.kinds c.in_ok-matches.ensures.matches
    c.in-Some.ensures.name c.in-Some.ensures.rows in
    named_journal words rows (subst (λ (name : Text). Names words name rows) c.in-journal.is names)

pub returns-in-journal : goal.returns-in-journal
returns-in-journal c =
    let words = map string_bytes c.args.words.now in
    let rows = rows_of (found_of c.in-Some.given.now) in
    let names = meets (app_of c.in_ok-command.field-0) words c.in_ok-matches.matches c.in-Some.name.now rows c.in_ok-command.ensures c.in_ok-matches.ensures.kinds c.in_ok-matches.ensures.matches
    c.in-Some.ensures.name c.in-Some.ensures.rows in
    let told = c.journal_order.ensures in
    record {
      order = journal_as_given words rows c.journal_order.result (subst (λ (name : Text). Names words name rows) c.in-journal.is names) told.order;
      usage = memory_is_cause words c.journal_order.result told.only;
      taken = λ _. told.only;
      replay = λ _ _. told.only;
    }

pub unreachable-requires : goal.unreachable-requires
unreachable-requires c =
    meets_one (app_of c.in_ok-command.field-0) (map string_bytes c.args.words.now) c.in_ok-matches.matches c.in_ok-command.ensures c.in_ok-matches.ensures.kinds c.in_ok-matches.ensures.matches
    (sym c.in_default.ensures.rows)

pub unreachable-requires-in_default-name : goal.unreachable-requires-in_default-name
unreachable-requires-in_default-name c =
    let words = map string_bytes c.args.words.now in
    let rows = rows_of (found_of c.in-Some.given.now) in
    let names = meets (app_of c.in_ok-command.field-0) words c.in_ok-matches.matches c.in-Some.name.now rows c.in_ok-command.ensures c.in_ok-matches.ensures.kinds c.in_ok-matches.ensures.matches
    c.in-Some.ensures.name c.in-Some.ensures.rows in
    elim ((names_one words c.in-Some.name.now rows names).0) [
      | inl replay ↦ c.in_default-name.not-replay replay
      | inr (inl serve) ↦ c.in_default-name.not-serve serve
      | inr (inr (inl run)) ↦ c.in_default-name.not-run run
      | inr (inr (inr journal)) ↦ c.in_default-name.not-journal journal
    ]

pub returns-in_err-command : goal.returns-in_err-command
returns-in_err-command c =
    let refused = want_of_memory (map string_bytes c.args.words.now) c.from_residual.result c.from_residual.ensures.1 in
    record { order = refused.order; usage = refused.usage; taken = λ _. refused.only; replay = λ _ _. refused.only }
