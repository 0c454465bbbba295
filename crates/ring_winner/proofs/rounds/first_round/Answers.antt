-- Each position of the ring holds its identity.
use Rattle.std.proofs.Common.{arith, rules}
use Rattle.ring_peterson.specs.Rounds.{first_round}
use Rattle.ring_peterson.proofs.Walked.{numbered_one_more}
use Rattle.ring_winner.proofs.rounds.first_round.Goals as goal

pub loop-position-preserved : goal.loop-position-preserved
loop-position-preserved c =
    let ring = c.args.ring.now in
    let so_far = c.loop-position.invariant in
    record {
      numbers = numbered_one_more ring (first_round ring) c.loop-position.position c.unwrap.result c.loop-position.round.items c.push_reserved.new.self.items (search rules) c.push_reserved.ensures.items so_far.numbers;
      len = omega (arith, c.push_reserved.ensures.len, so_far.len);
      room = omega (arith, c.push_reserved.ensures.capacity, so_far.room);
    }
