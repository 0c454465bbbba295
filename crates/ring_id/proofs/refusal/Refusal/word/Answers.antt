-- The word of each refusal is its text's bytes.
use Rattle.std.proofs.Common.{rules}
use Rattle.ring_id.proofs.refusal.Refusal.word.Goals as goal

pub returns-in-NoGroup : goal.returns-in-NoGroup
returns-in-NoGroup c = search rules depth 2 fits 100

pub returns-in-Exists : goal.returns-in-Exists
returns-in-Exists c = search rules depth 2 fits 100
