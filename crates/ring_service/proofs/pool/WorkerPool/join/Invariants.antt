use Rattle.std.proofs.Common.{◌+◌, ◌≤◌, vec_len, vec_capacity}
use Rattle.ring_service.proofs.Manning.{JoinsSome}
use Rattle.ring_service.proofs.pool.WorkerPool.join.Given as goal

-- each thread that has ended has its result here, and there is room for those of the others
abbrev pub invariant-loop-thread : goal.invariant-loop-thread
invariant-loop-thread g l = record {
  joins : JoinsSome l.fn.self.threads.items l.threads.items l.handed.items;
  room : vec_len l.threads + vec_len l.handed ≤ vec_capacity l.handed;
}

abbrev pub decreases-loop-thread : goal.decreases-loop-thread
decreases-loop-thread g l = vec_len l.threads
