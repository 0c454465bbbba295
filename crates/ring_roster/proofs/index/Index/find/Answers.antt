-- A right guess and a place found in the order have the number, and so has the member found by a
-- search of all.
use Rattle.std.proofs.Common.{rules, sym, tests}
use Rattle.std.proofs.lemmas.Iterator.{YieldsList-from_slice}
use Rattle.std.proofs.lemmas.Iterator.Search.{position_from_yields_List}
use Rattle.ring_roster.specs.Ring.{is_numbered}
use Rattle.ring_roster.proofs.Orders.{position_absent, position_found}
use Rattle.ring_roster.proofs.index.Index.find.Goals as goal

pub returns-then-stands_at : goal.returns-then-stands_at
returns-then-stands_at c =
    let there = c.stands_at.ensures.0 c.if-stands_at.true in
    sym (position_found c.args.members.now c.args.node c.of-guess.result c.requires.ring.distinct there.0 there.1)

pub returns-in-Some : goal.returns-in-Some
returns-in-Some c =
    let there = c.in-Some.ensures.some in
    sym (position_found c.args.members.now c.args.node c.in-Some.position c.requires.ring.distinct there.0 there.1)

pub returns-in-None : goal.returns-in-None
returns-in-None c = sym (position_absent c.args.members.now c.args.node c.in-None.ensures.none)

pub returns-in_default : goal.returns-in_default
returns-in_default c =
    position_from_yields_List (is_numbered c.args.node) _ _ _ c.position.ensures.ran (YieldsList-from_slice c.args.members.now cc) (λ x b q called. search (rules, tests))
