-- The standing in the last term is the standing in the group.
use Rattle.std.proofs.Common.{rules}
use Rattle.ring_terms.proofs.GroupFacts.{last_sound, last_tells}
use Rattle.ring_terms.proofs.group.Group.who.Goals as goal

pub who-requires : goal.who-requires
who-requires g c = last_sound g.E.RingElection.winner c.args.self.now.name c.args.self.now c.requires c.in-Some.term.now (search rules)

pub returns : goal.returns
returns g c = last_tells g.E.RingElection.winner c.args.self.now.name c.args.self.now c.requires c.in-Some.term.now (search rules) _ _ c.who.ensures
