-- A line whose first word is no place is left whole.
use Rattle.std.proofs.Common.{None, Some}
use Rattle.ringctl.proofs.Places.{other_word, unplaced}
use Rattle.ringctl.proofs.reply.without_place.Goals as goal

pub returns-in_default : goal.returns-in_default
returns-in_default c = unplaced _ None c.in_default.ensures.cases tt

pub returns-else-is_place : goal.returns-else-is_place
returns-else-is_place c = unplaced _ (Some (c.in-Some.place, c.in-Some.rest)) c.in-Some.ensures.cases (other_word _ _ c.is_place.ensures c.if-is_place.false)
