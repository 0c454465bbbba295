-- Hirschberg and Sinclair's says itself that it sends both ways.
use Rattle.std.proofs.Common.{rules}
use Rattle.ring_any.proofs.any.AnyRingElection.two_way.Goals as goal

pub returns-in-Hirschberg : goal.returns-in-Hirschberg
returns-in-Hirschberg c = search rules depth 2 fits 100
