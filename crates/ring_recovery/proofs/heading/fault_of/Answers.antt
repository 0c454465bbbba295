use Rattle.std.proofs.Common.{inl, inr, refl}
use Rattle.ring_recovery.proofs.heading.fault_of.Goals as goal

pub returns-in-Some : goal.returns-in-Some
returns-in-Some c = inr (inl (record { place = refl; rest = c.in-Some.field-0.now; begins = c.in-Some.ensures.some; bad = c.requires.other }))
