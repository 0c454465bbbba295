-- A token with more than one hop goes on with one less.
use Rattle.std.proofs.Common.{rules}
use Rattle.ring_hirschberg.proofs.hirschberg.pass.Goals as goal

pub returns-in_default : goal.returns-in_default
returns-in_default c = search rules
