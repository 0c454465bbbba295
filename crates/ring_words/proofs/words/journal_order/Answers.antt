use Rattle.std.proofs.Common.{◌≡◌, ◌∙◌, ap, sym}
use Rattle.std.specs.Prelude.{Some, codes, string_bytes}
use Rattle.clap.specs.Words.{found_of}
use Rattle.clap.proofs.WalkLemmas.{first_value-rows}
use Rattle.ring_words.proofs.Numbers.{text_given, text_read}
use Rattle.ring_words.proofs.words.journal_order.Goals as goal

pub unreachable-requires : goal.unreachable-requires
unreachable-requires c = text_given c.get_str.result c.requires.path (c.get_str.ensures ∙ first_value-rows (found_of c.args.given.now) (codes "file") ∙ c.requires.file) c.in_default.not-Some

pub returns-clause-order : goal.returns-clause-order
returns-clause-order c =
    let file = c.get_str.ensures ∙ first_value-rows (found_of c.args.given.now) (codes "file") ∙ c.requires.file in
    let path : string_bytes c.in_ok-from_str.field-0 ≡ c.requires.path = c.in_ok-from_str.ensures.ok ∙ text_read c.get_str.result c.in-Some.path c.requires.path file c.in-Some.is in
    c.requires.file ∙ ap (λ text. Some text) (sym path)
