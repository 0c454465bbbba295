-- Each part of the text, at its commas, is asked for a colon.
use Rattle.std.proofs.Common.{lit<, rules, tests}
use Rattle.std.proofs.lemmas.Iterator.Search.{all_from_yields_List}
use Rattle.std.proofs.lemmas.Iterator.Splits.{YieldsList-from_str_split}
use Rattle.ring_words.specs.Journals.{has_colon}
use Rattle.ring_words.proofs.journals.are_members.Goals as goal

pub returns : goal.returns
returns c =
    all_from_yields_List has_colon _ _ _ c.all.ensures.ran
    (YieldsList-from_str_split 44 c.args.members.now (lit< tt) c.split.ensures.text c.split.ensures.has_more c.split.ensures.pattern)
    (λ x b q k. search (rules, tests))
