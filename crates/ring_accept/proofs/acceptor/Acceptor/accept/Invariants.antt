use Rattle.std.proofs.Common.{◌≡◌, true}
use Rattle.ring_accept.proofs.acceptor.Acceptor.accept.Given as goal

-- the number and whether the acceptor is open are unchanged, and a report that was made stays made
abbrev pub invariant-loop : goal.invariant-loop
invariant-loop g l =
    (goal.iterator-loop g).can_next l.iterator' × (goal.iterator-loop g).is_finite l.iterator' × (l.self.last ≡ l.fn.self.last) × (l.self.is_open ≡ l.fn.self.is_open)
    × (l.fn.self.has_told ≡ true → l.self.has_told ≡ true)
