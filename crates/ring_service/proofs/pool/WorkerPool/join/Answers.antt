-- One thread less, and one more result.
use Rattle.std.proofs.Common.{arith}
use Rattle.ring_service.proofs.Manning.{joins_more}
use Rattle.ring_service.proofs.pool.WorkerPool.join.Goals as goal

pub loop-thread-preserved : goal.loop-thread-preserved
loop-thread-preserved g c = record {
  joins = joins_more c.args.self.threads.items c.loop-thread.threads.items c.pop.new.self.items c.in-Some.thread c.loop-thread.handed.items c.push_reserved.new.self.items c.join.result
      c.loop-thread.invariant.joins c.in-Some.ensures.items c.push_reserved.ensures.items c.join.ensures;
  room = omega (arith, c.in-Some.ensures.len, c.push_reserved.ensures.len, c.push_reserved.ensures.capacity, c.loop-thread.invariant.room);
}
