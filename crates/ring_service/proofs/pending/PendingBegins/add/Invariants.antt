use Rattle.std.proofs.Common.{◌≡◌, ◌+◌, ◌≤◌, ◌++◌, vec_len}
use Rattle.std.specs.Iterator.Adapters.{enumerate_count, enumerate_source}
use Rattle.std.specs.Vec.Iter.{into_iter_items, into_iter_len}
use Rattle.std.specs.VecDeque.{deque_capacity, deque_len}
use Rattle.ring_service.specs.private.PendingBegins.{begins_from}
use Rattle.ring_service.proofs.pending.PendingBegins.add.Given as goal

-- the begins so far and those of the charters that are left are all begins, and there is room for
-- them
abbrev pub invariant-loop-worker : goal.invariant-loop-worker
invariant-loop-worker l = record {
  passes : l.self.passes ≡ l.fn.self.passes;
  waiting : l.self.waiting.items ++ begins_from (enumerate_count l.worker-iterator) (into_iter_items (enumerate_source l.worker-iterator)) ≡ l.fn.self.waiting.items ++ begins_from 0 l.fn.charters.items;
  count : enumerate_count l.worker-iterator + into_iter_len (enumerate_source l.worker-iterator) ≤ vec_len l.self.passes;
  room : deque_len l.self.waiting + into_iter_len (enumerate_source l.worker-iterator) ≤ deque_capacity l.self.waiting;
}
