use Rattle.std.proofs.Common.{rules}
use Rattle.ring_words.proofs.places.place_of.Goals as goal

pub returns-in-Ok : goal.returns-in-Ok
returns-in-Ok c = search rules

pub returns-then-contains : goal.returns-then-contains
returns-then-contains c = search rules
