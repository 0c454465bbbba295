use Rattle.ring_change.proofs.OneChange.{changes_are_lines, changes_have_one_spelling}
use Rattle.ring_change.proofs.spelling.one_change.Goals as goal

pub returns-clause-changes : goal.returns-clause-changes
returns-clause-changes c = changes_have_one_spelling c.one_spelling.ensures.events

pub returns-clause-lines : goal.returns-clause-lines
returns-clause-lines c = changes_are_lines
