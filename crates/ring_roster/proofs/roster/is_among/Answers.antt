-- Each is asked whether its number is this one's.
use Rattle.std.proofs.Common.{rules, tests}
use Rattle.std.proofs.lemmas.Iterator.{YieldsList-from_slice}
use Rattle.std.proofs.lemmas.Iterator.Search.{any_from_yields_List}
use Rattle.ring_roster.specs.Ring.{has_number}
use Rattle.ring_roster.proofs.roster.is_among.Goals as goal

pub returns : goal.returns
returns c =
    any_from_yields_List (has_number c.args.node) _ _ _ c.any.ensures.ran (YieldsList-from_slice c.args.members.now cc) (λ x b q called. search (rules, tests))
