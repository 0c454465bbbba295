use Rattle.std.proofs.Common.{◌≡◌, ◌<◌, Some, slice_get, refl, ap, ◌∙◌, arith, vec_len}
use Rattle.std.proofs.lemmas.Option.{slice_get_read}
use Rattle.ring_workers.specs.Owners.{owner_of}
use Rattle.ring_workers.proofs.Running.{sends_back, sends_next, sends_none}
use Rattle.ring_workers.proofs.outbox.send.Goals as goal

pub loop-init : goal.loop-init
loop-init g c = record {
  sends = sends_none c.args.owner.now.workers c.args.outbox.now.items c.args.senders.now.items;
  count = refl;
}

pub loop-preserved : goal.loop-preserved
loop-preserved g c =
    let within : c.of-to.result < vec_len c.loop.senders = omega arith in
    let there : slice_get c.loop.senders.items c.of-to.result ≡ Some c.index_mut.result.now =
    slice_get_read c.loop.senders.items (vec_len c.loop.senders) c.of-to.result c.index_mut.result.now c.loop.senders.ok.0 within c.index_mut.ensures.value in
    record {
      sends = sends_next c.args.owner.now.workers c.args.outbox.now.items c.loop.outbox.items c.pop_front.new.self.items c.in-Some.envelope c.args.senders.now.items c.loop.senders.items
          c.of-to.result c.index_mut.result.now c.put_one.new.pass c.loop.invariant.sends c.in-Some.ensures.items (c.of-to.ensures.value ∙ ap (owner_of c.args.owner.now.workers) c.receiver.ensures) there
          (c.in_default-put_one.ensures);
      count = c.loop.invariant.count;
    }

pub returns-in-Some-put_one-clause-sends : goal.returns-in-Some-put_one-clause-sends
returns-in-Some-put_one-clause-sends g c =
    let within : c.of-to.result < vec_len c.loop.senders = omega arith in
    let there : slice_get c.loop.senders.items c.of-to.result ≡ Some c.index_mut.result.now =
    slice_get_read c.loop.senders.items (vec_len c.loop.senders) c.of-to.result c.index_mut.result.now c.loop.senders.ok.0 within c.index_mut.ensures.value in
    sends_back c.args.owner.now.workers c.args.outbox.now.items c.loop.outbox.items c.pop_front.new.self.items c.push_front_reserved.new.self.items c.in-Some.envelope c.in-Some-put_one.back
    c.args.senders.now.items c.loop.senders.items c.of-to.result c.index_mut.result.now c.put_one.new.pass c.loop.invariant.sends c.in-Some.ensures.items c.push_front_reserved.ensures.items
    c.in-Some-put_one.ensures.0 there c.in-Some-put_one.ensures.1
