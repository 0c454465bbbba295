-- Each part of the text, at its commas, is asked whether it is an address.
use Rattle.std.proofs.Common.{lit<, rules, tests}
use Rattle.std.proofs.lemmas.Iterator.{cases_from_all}
use Rattle.std.proofs.lemmas.Iterator.Splits.{YieldsList-from_str_split}
use Rattle.ringctl.specs.Addresses.{IsAddress}
use Rattle.ringctl.proofs.Cuts.{all_of}
use Rattle.ringctl.proofs.addresses.are_addresses.Goals as goal

pub returns : goal.returns
returns c =
    all_of _ _
    (cases_from_all _ _ _ IsAddress (λ part. IsAddress part → ⊥) c.all.ensures.ran
    (YieldsList-from_str_split 44 c.args.text.now (lit< tt) c.split.ensures.text c.split.ensures.has_more c.split.ensures.pattern)
    (λ x q k. search (rules, tests)) (λ x q k. search (rules, tests)))
