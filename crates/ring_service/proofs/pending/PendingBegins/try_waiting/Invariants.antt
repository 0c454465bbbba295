use Rattle.ring_service.proofs.Posting.{TriesSome}
use Rattle.ring_service.proofs.pending.PendingBegins.try_waiting.Given as goal

-- as many begins have been tried as rounds
abbrev pub invariant-loop : goal.invariant-loop
invariant-loop g l = TriesSome l.counter l.fn.self.waiting.items l.self.waiting.items l.fn.self.passes.items l.self.passes.items
