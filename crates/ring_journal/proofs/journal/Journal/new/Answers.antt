use Rattle.std.proofs.Common.{refl, rules}
use Rattle.ring_journal.proofs.Settling.{crash_finds, near_same, new_journal}
use Rattle.ring_journal.proofs.journal.Journal.new.Goals as goal

pub returns-clause-any_moment : goal.returns-clause-any_moment
returns-clause-any_moment g c =
    let j = new_journal _ _ c.new.ensures c.requires.lines c.requires.kept in
    λ m from to found find. crash_finds _ _ _ j _ _ refl (near_same _ _ _ j _ refl) m from to found find

pub returns-clause-works : goal.returns-clause-works
returns-clause-works g c = search rules
