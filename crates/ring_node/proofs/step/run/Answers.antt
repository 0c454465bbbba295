-- The algorithm's messages come after those sent before. If an allocation fails, nothing has
-- changed. An announcement does not change the algorithm's state.
use Rattle.std.proofs.Common.{◌++◌, refl, sym, ap, ◌∙◌, arith}
use Rattle.std.proofs.lemmas.List.{append-nil}
use Rattle.std.proofs.lemmas.Result.{err_from_is_err_and}
use Rattle.ring_id.specs.declared.side.Side.TheVariants.{Left, Right}
use Rattle.ring_election.specs.declared.sends.Sends.{Sends}
use Rattle.ring_election.specs.Tables.{to_side}
use Rattle.ring_node.specs.Ports.{all_algos}
use Rattle.ring_node.proofs.step.run.Goals as goal

pub returns-in_err-sends-in-Algo : goal.returns-in_err-sends-in-Algo
returns-in_err-sends-in-Algo g c =
    let p = err_from_is_err_and c.from_residual.result c.from_residual.ensures.1 in
    rw p.1
    (record {
      state = tt;
      brought = tt;
      left = tt;
      right = tt;
      counts_left = (refl, refl);
      counts_right = (refl, refl);
      room = omega (arith, c.requires.room_right);
      err = c.in_err-sends-in-Algo.ensures.err;
      err_left = refl;
      err_right = refl;
    })

pub returns-in-Leader : goal.returns-in-Leader
returns-in-Leader g c =
    rw c.in-Leader.is
    (record {
      state = refl;
      brought = refl;
      left = sym (append-nil _);
      right = sym (append-nil _);
      counts_left = (refl, refl);
      counts_right = (refl, refl);
      room = omega (arith, c.requires.room_right);
      err = tt;
      err_left = tt;
      err_right = tt;
    })

pub returns-in_ok-sends-in-Algo : goal.returns-in_ok-sends-in-Algo
returns-in_ok-sends-in-Algo g c =
    let table = g.E.RingElection.table c.args.algorithm in
    let given = c.in_ok-sends-in-Algo.ensures in
    rw c.in-Algo.is
    (record {
      state = given.state;
      brought = c.decision.ensures ∙ ap table.decided given.state;
      left = c.post.ensures.sent ∙ ap (λ (s : Sends g.row.E-Msg.Denot). c.args.left.now.sent.items ++ all_algos (to_side Left s)) given.sends;
      right = c.post-in-Algo.ensures.sent ∙ ap (λ (s : Sends g.row.E-Msg.Denot). c.args.right.now.sent.items ++ all_algos (to_side Right s)) given.sends;
      counts_left = (c.post.ensures.algos, c.post.ensures.leaders);
      counts_right = (c.post-in-Algo.ensures.algos, c.post-in-Algo.ensures.leaders);
      room = omega (arith, c.post-in-Algo.ensures.len, c.post-in-Algo.ensures.capacity, c.requires.room_right);
      err = tt;
      err_left = tt;
      err_right = tt;
    })
