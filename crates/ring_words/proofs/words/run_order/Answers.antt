use Rattle.std.proofs.Common.{◌≡◌, ◌∙◌, ap, arith, subst, sym}
use Rattle.std.specs.Prelude.{Some, codes, string_bytes}
use Rattle.std.specs.Str.Parse.{ExplainsUnsignedError, HasUnsignedDigitsIfOk, ParsesUnsigned}
use Rattle.clap.specs.Words.{found_of, one_of, rows_of}
use Rattle.clap.proofs.WalkLemmas.{first_value-rows, one_text-rows}
use Rattle.ring_words.specs.Words.{IsFlag, IsGivenOr}
use Rattle.ring_words.proofs.Numbers.{number_or, text_given, text_read}
use Rattle.ring_words.proofs.words.run_order.Goals as goal

pub unreachable-requires : goal.unreachable-requires
unreachable-requires c = text_given c.get_str.result c.requires.file.path (c.get_str.ensures ∙ first_value-rows (found_of c.args.given.now) (codes "config") ∙ c.requires.file.file) c.in_default.not-Some

pub returns-clause-order : goal.returns-clause-order
returns-clause-order c =
    let found = found_of c.args.given.now in
    let file = c.get_str.ensures ∙ first_value-rows (found_of c.args.given.now) (codes "config") ∙ c.requires.file.file in
    let path : string_bytes c.in_ok-from_str.field-0 ≡ c.requires.file.path = c.in_ok-from_str.ensures.ok ∙ text_read c.get_str.result c.in-Some.path c.requires.file.path file c.in-Some.is in
    let sessions =
    number_or (λ bs r. ParsesUnsigned 32 10 bs r × ExplainsUnsignedError 10 bs r × HasUnsignedDigitsIfOk bs r) (λ u x h. h.0) 1 128 (omega arith) 16 (codes "sessions") found c.get_one.result c.get_one.ensures.none
    c.get_one.ensures.value c.requires.sessions in
    let idle =
    number_or (λ bs r. ParsesUnsigned 32 10 bs r × ExplainsUnsignedError 10 bs r × HasUnsignedDigitsIfOk bs r) (λ u x h. h.0) 0 86400 (omega arith) 0 (codes "idle") found c.get_one-2.result c.get_one-2.ensures.none
    c.get_one-2.ensures.value c.requires.idle in
    record {
      file = c.requires.file.file ∙ ap (λ text. Some text) (sym path);
      sessions_given = subst (λ n. IsGivenOr 16 1 128 (one_of (codes "sessions") (rows_of found)) n) (sym c.unwrap_or-sessions.ensures) sessions;
      idle_given = subst (λ n. IsGivenOr 0 0 86400 (one_of (codes "idle") (rows_of found)) n) (sym c.unwrap_or-idle.ensures) idle;
      journal_given = sym (c.in_ok-journal.ensures ∙ c.get_str-2.ensures ∙ first_value-rows found (codes "journal"));
      campaign_given = sym (c.in_ok-campaign.ensures ∙ c.get_str-3.ensures ∙ first_value-rows found (codes "campaign"));
      http_given = sym (c.in_ok-http.ensures ∙ c.get_str-4.ensures ∙ first_value-rows found (codes "http"));
      socket_given = sym (c.in_ok-socket.ensures ∙ c.get_str-5.ensures ∙ first_value-rows found (codes "socket"));
      mode_given = sym (c.in_ok-mode.ensures ∙ c.get_str-6.ensures ∙ first_value-rows found (codes "socket-mode"));
      places_given = subst (λ given. IsFlag given c.get_flag-places.result) (one_text-rows found (codes "places")) (c.get_flag-places.ensures.none, c.get_flag-places.ensures.value, c.get_flag-places.ensures.other);
    }
