use Rattle.std.proofs.Common.{◌≡◌, ◌∙◌, ap, arith, subst, sym}
use Rattle.std.specs.Prelude.{Some, codes, string_bytes, unwrap_or}
use Rattle.std.specs.Str.Parse.{ExplainsUnsignedError, HasUnsignedDigitsIfOk, ParsesUnsigned}
use Rattle.clap.specs.Words.{found_of, without_minus}
use Rattle.clap.proofs.WalkLemmas.{first_value-rows, one_text-rows}
use Rattle.ring_words.specs.Words.{IsNumberIn}
use Rattle.ring_words.proofs.Numbers.{number_read, text_given, text_read}
use Rattle.ring_words.proofs.words.serve_order.Goals as goal

pub unreachable-requires : goal.unreachable-requires
unreachable-requires c = text_given c.get_str.result c.requires.file.path (c.get_str.ensures ∙ first_value-rows (found_of c.args.given.now) (codes "config") ∙ c.requires.file.file) c.in_default.not-Some

pub unreachable-requires-in_default-get_one : goal.unreachable-requires-in_default-get_one
unreachable-requires-in_default-get_one c =
    let one = c.get_one.ensures.value (without_minus c.requires.connections.text) (one_text-rows (found_of c.args.given.now) (codes "connections") ∙ c.requires.connections.given) in
    let got =
    number_read (λ bs r. ParsesUnsigned 32 10 bs r × ExplainsUnsignedError 10 bs r × HasUnsignedDigitsIfOk bs r) (λ u x h. h.0) 1 64 (omega arith) c.requires.connections.text c.get_one.result one c.requires.connections.passed in
    c.in_default-get_one.not-Some got.0 got.1

pub returns-clause-order : goal.returns-clause-order
returns-clause-order c =
    let file = c.get_str.ensures ∙ first_value-rows (found_of c.args.given.now) (codes "config") ∙ c.requires.file.file in
    let path : string_bytes c.in_ok-from_str.field-0 ≡ c.requires.file.path = c.in_ok-from_str.ensures.ok ∙ text_read c.get_str.result c.in-Some.path c.requires.file.path file c.in-Some.is in
    let one = c.get_one.ensures.value (without_minus c.requires.connections.text) (one_text-rows (found_of c.args.given.now) (codes "connections") ∙ c.requires.connections.given) in
    let got =
    number_read (λ bs r. ParsesUnsigned 32 10 bs r × ExplainsUnsignedError 10 bs r × HasUnsignedDigitsIfOk bs r) (λ u x h. h.0) 1 64 (omega arith) c.requires.connections.text c.get_one.result one c.requires.connections.passed in
    let same : got.0 ≡ c.in-Some-get_one.connections = ap (λ o. unwrap_or o 0) (sym got.1 ∙ c.in-Some-get_one.is) in
    record {
      file = c.requires.file.file ∙ ap (λ text. Some text) (sym path);
      text = without_minus c.requires.connections.text;
      given = c.requires.connections.given;
      socket_given = sym (c.in_ok-socket.ensures ∙ c.get_str-2.ensures ∙ first_value-rows (found_of c.args.given.now) (codes "socket"));
      mode_given = sym (c.in_ok-mode.ensures ∙ c.get_str-3.ensures ∙ first_value-rows (found_of c.args.given.now) (codes "socket-mode"));
      number = subst (λ n. IsNumberIn 1 64 (without_minus c.requires.connections.text) n) same got.2;
    }

-- An order is no refusal.
pub returns-clause-only : goal.returns-clause-only
returns-clause-only c = tt
