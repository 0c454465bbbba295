-- The word of each kind is its text's bytes.
use Rattle.std.proofs.Common.{rules}
use Rattle.ring_any.proofs.any.Any.word.Goals as goal

pub returns-in-Chang : goal.returns-in-Chang
returns-in-Chang c = search rules depth 2 fits 100
