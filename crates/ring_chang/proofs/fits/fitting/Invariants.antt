use Rattle.ring_chang.proofs.Reading.{IsRead}
use Rattle.ring_chang.proofs.fits.fitting.Given as goal

abbrev pub invariant-loop : goal.invariant-loop
invariant-loop l = IsRead l.ring l.position l.at l.counter l.fits.items
