-- The charter that is given is the copy's, with which the term started.
use Rattle.std.proofs.Common.{subst}
use Rattle.ring_terms.specs.Books.{group_view}
use Rattle.ring_terms.specs.Commands.{StartsWith}
use Rattle.ring_terms.proofs.group.Group.start.Goals as goal

pub returns-clause-answer : goal.returns-clause-answer
returns-clause-answer g c = (
  c.in_ok-charter.ensures.0,
  subst (λ charter. StartsWith c.args.self.now.name charter (group_view c.args.self.now) (group_view c.start_planned.new.self)) c.in-Ok.ensures c.in-Ok-start_planned.ensures.started,
)
