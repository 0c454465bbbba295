use Rattle.std.proofs.Common.{rules}
use Rattle.ring_words.proofs.places.gives_path.Goals as goal

pub returns-in-Some : goal.returns-in-Some
returns-in-Some c = search rules
