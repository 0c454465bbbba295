use Rattle.std.proofs.Common.{◌≡◌}
use Rattle.ring_campaign.proofs.caller.Caller.insist.Given as goal

-- a command that was not placed changes nothing
abbrev pub invariant-loop : goal.invariant-loop
invariant-loop g l = g.A.Access.has_seat l.fn.self.access.now l.seat × (g.A.Access.mine l.seat ≡ g.A.Access.mine l.fn.seat)
