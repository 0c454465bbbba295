-- One seat less, and one worker more.
use Rattle.std.proofs.Common.{◌≡◌, ◌+◌, ◌<◌, ◌∙◌, ℕ, [], ◌∷◌, All, Some, ap, length, map, slice_get, subst, sym, take, arith, vec_len}
use Rattle.std.specs.Prelude.{IfSome, Vec}
use Rattle.std.specs.Global.{Global}
use Rattle.std.proofs.lemmas.List.{length-append}
use Rattle.std.proofs.lemmas.List.Elements.{All-pop}
use Rattle.ring_any.specs.declared.any.Any.{Any}
use Rattle.ring_any.specs.declared.any.AnyMsg.{AnyMsg}
use Rattle.ring_any.specs.declared.any.AnyState.{AnyState}
use Rattle.ring_inbox.specs.Values.{ReceiverLog, fresh_sender}
use Rattle.ring_service.specs.private.Pools.{StartsOne}
use Rattle.ring_service.specs.private.Meshes.{SendersOf}
use Rattle.ring_service.proofs.Manning.{manned_more}
use Rattle.ring_service.proofs.Meshing.{senders_counted, senders_left, taken_all, takes_receiver}
use Rattle.ring_service.proofs.service.start_all.Goals as goal
use Rattle.ring_workers.specs.declared.item.Item.{Item}

pub loop-seat-preserved : goal.loop-seat-preserved
loop-seat-preserved g c =
    let left : c.len-number.result ≡ vec_len c.pop.new.self = omega (arith, c.len-number.ensures) in
    let next : vec_len c.loop-seat.seats ≡ c.len-number.result + 1 = omega (arith, c.in-Some.ensures.len, c.len-number.ensures) in
    let long : length c.loop-seat.mesh.senders.items ≡ length c.args.mesh.now.receivers.items =
    omega (arith, c.loop-seat.invariant.inboxes, c.loop-seat.mesh.senders.ok.0, c.requires.receivers, c.args.mesh.now.receivers.ok.0, c.len-workers.ensures) in
    let all : SendersOf (c.len-number.result + 1) c.args.mesh.now.receivers.items c.loop-seat.mesh.senders.items = subst (λ (n : ℕ). SendersOf n c.args.mesh.now.receivers.items c.loop-seat.mesh.senders.items) next c.loop-seat.invariant.senders in
    let within : c.len-number.result < length c.args.mesh.now.receivers.items = omega (arith, next, c.loop-seat.invariant.few, c.len-workers.ensures, c.requires.receivers, c.args.mesh.now.receivers.ok.0) in
    let front : c.loop-seat.mesh.receivers.items ≡ take (c.len-number.result + 1) c.args.mesh.now.receivers.items = subst (λ (n : ℕ). c.loop-seat.mesh.receivers.items ≡ take n c.args.mesh.now.receivers.items) next c.loop-seat.invariant.receivers in
    let own = takes_receiver c.args.mesh.now.receivers.items c.loop-seat.mesh.receivers.items c.pop-in-Some.new.self.items c.unwrap.result c.len-number.result front (rw c.unwrap.ensures at c.pop-in-Some.ensures.items) within in
    let starts : StartsOne c.args.mesh.now.receivers.items c.new.result.owner.number c.loop-seat.pool.threads.items c.start.new.self.threads.items =
    subst (λ (v : Vec (ReceiverLog (Item Any AnyMsg AnyState)) Global). StartsOne v.items c.new.result.owner.number c.loop-seat.pool.threads.items c.start.new.self.threads.items) c.of-inboxes.ensures c.in_ok-start.ensures.started in
    let longer : length c.start.new.self.threads.items ≡ length c.loop-seat.pool.threads.items + 1 = ap length starts.added ∙ length-append c.loop-seat.pool.threads.items (starts.thread ∷ []) in
    record {
      receivers = subst (λ (n : ℕ). c.pop-in-Some.new.self.items ≡ take n c.args.mesh.now.receivers.items) left own.0;
      inboxes = c.take_last.ensures.count ∙ c.loop-seat.invariant.inboxes;
      senders = subst (λ (n : ℕ). SendersOf n c.args.mesh.now.receivers.items c.take_last.new.inboxes.items) left
          (senders_left c.len-number.result c.args.mesh.now.receivers.items c.loop-seat.mesh.senders.items c.take_last.new.inboxes.items c.in-Ok-take_last.senders.items long all c.in-Ok-take_last.ensures.lasts);
      few = omega (arith, c.in-Some.ensures.len, c.loop-seat.invariant.few);
      seats = (All-pop (g.A.Access.has_seat c.args.access.now.value) c.loop-seat.seats.items c.pop.new.self.items c.pop.result c.pop.ensures.items c.loop-seat.invariant.seats).0;
      manned = manned_more c.args.mesh.now.receivers.items c.new.result.owner.number c.loop-seat.pool.threads.items c.start.new.self.threads.items c.loop-seat.invariant.manned starts
          (omega (arith, c.new.ensures.number, next, c.loop-seat.invariant.started, c.loop-seat.pool.threads.ok.0, c.len-workers.ensures, c.requires.receivers, c.args.mesh.now.receivers.ok.0));
      started = omega (arith, longer, c.start.new.self.threads.ok.0, c.loop-seat.pool.threads.ok.0, c.in-Some.ensures.len, c.loop-seat.invariant.started);
      threads = omega (arith, c.start.ensures.room.0, c.loop-seat.invariant.threads);
      handed = omega (arith, c.start.ensures.room.1, c.loop-seat.invariant.handed);
    }

-- Each inbox has as many senders left as there are seats, with this one.
pub take_last-requires : goal.take_last-requires
take_last-requires g c =
    let next : vec_len c.loop-seat.seats ≡ c.len-number.result + 1 = omega (arith, c.in-Some.ensures.len, c.len-number.ensures) in
    let long : length c.loop-seat.mesh.senders.items ≡ length c.args.mesh.now.receivers.items =
    omega (arith, c.loop-seat.invariant.inboxes, c.loop-seat.mesh.senders.ok.0, c.requires.receivers, c.args.mesh.now.receivers.ok.0, c.len-workers.ensures) in
    let all : SendersOf (c.len-number.result + 1) c.args.mesh.now.receivers.items c.loop-seat.mesh.senders.items = subst (λ (n : ℕ). SendersOf n c.args.mesh.now.receivers.items c.loop-seat.mesh.senders.items) next c.loop-seat.invariant.senders in
    senders_counted _ _ _ long all

-- The seat that is taken is one of the access's.
pub new-requires-in-Some : goal.new-requires-in-Some
new-requires-in-Some g c =
    let seat : IfSome c.pop.result (g.A.Access.has_seat c.args.access.now.value) =
    (All-pop (g.A.Access.has_seat c.args.access.now.value) c.loop-seat.seats.items c.pop.new.self.items c.pop.result c.pop.ensures.items c.loop-seat.invariant.seats).1 in
    subst (λ access. g.A.Access.has_seat access c.in-Some.seat) {y = c.in-Ok-try_clone.access.value} (sym {a = c.in-Ok-try_clone.access.value} c.in-Ok-try_clone.ensures) (subst (λ r. IfSome r (g.A.Access.has_seat c.args.access.now.value)) {y = Some c.in-Some.seat} c.in-Some.is seat)

-- The worker has the receiver of its own inbox.
pub start-requires-clause-receiver : goal.start-requires-clause-receiver
start-requires-clause-receiver g c κs within_lifetimes =
    let next : vec_len c.loop-seat.seats ≡ c.len-number.result + 1 = omega (arith, c.in-Some.ensures.len, c.len-number.ensures) in
    let long : length c.loop-seat.mesh.senders.items ≡ length c.args.mesh.now.receivers.items =
    omega (arith, c.loop-seat.invariant.inboxes, c.loop-seat.mesh.senders.ok.0, c.requires.receivers, c.args.mesh.now.receivers.ok.0, c.len-workers.ensures) in
    let all : SendersOf (c.len-number.result + 1) c.args.mesh.now.receivers.items c.loop-seat.mesh.senders.items = subst (λ (n : ℕ). SendersOf n c.args.mesh.now.receivers.items c.loop-seat.mesh.senders.items) next c.loop-seat.invariant.senders in
    let within : c.len-number.result < length c.args.mesh.now.receivers.items = omega (arith, next, c.loop-seat.invariant.few, c.len-workers.ensures, c.requires.receivers, c.args.mesh.now.receivers.ok.0) in
    let front : c.loop-seat.mesh.receivers.items ≡ take (c.len-number.result + 1) c.args.mesh.now.receivers.items = subst (λ (n : ℕ). c.loop-seat.mesh.receivers.items ≡ take n c.args.mesh.now.receivers.items) next c.loop-seat.invariant.receivers in
    let own = takes_receiver c.args.mesh.now.receivers.items c.loop-seat.mesh.receivers.items c.pop-in-Some.new.self.items c.unwrap.result c.len-number.result front (rw c.unwrap.ensures at c.pop-in-Some.ensures.items) within in
    ap (λ (n : ℕ). slice_get c.of-inboxes.result.value.items n) c.new.ensures.number ∙ ap (λ (v : Vec (ReceiverLog (Item Any AnyMsg AnyState)) Global). slice_get v.items c.len-number.result) c.of-inboxes.ensures ∙ own.1

-- It has a sender of each inbox, in the order of the workers.
pub start-requires-clause-senders : goal.start-requires-clause-senders
start-requires-clause-senders g c κs within_lifetimes =
    let next : vec_len c.loop-seat.seats ≡ c.len-number.result + 1 = omega (arith, c.in-Some.ensures.len, c.len-number.ensures) in
    let long : length c.loop-seat.mesh.senders.items ≡ length c.args.mesh.now.receivers.items =
    omega (arith, c.loop-seat.invariant.inboxes, c.loop-seat.mesh.senders.ok.0, c.requires.receivers, c.args.mesh.now.receivers.ok.0, c.len-workers.ensures) in
    let all : SendersOf (c.len-number.result + 1) c.args.mesh.now.receivers.items c.loop-seat.mesh.senders.items = subst (λ (n : ℕ). SendersOf n c.args.mesh.now.receivers.items c.loop-seat.mesh.senders.items) next c.loop-seat.invariant.senders in
    let count : length c.in-Ok-take_last.senders.items ≡ length c.args.mesh.now.receivers.items = omega (arith, c.in-Ok-take_last.ensures.one, c.in-Ok-take_last.senders.ok.0, c.loop-seat.mesh.senders.ok.0, long) in
    taken_all c.len-number.result c.args.mesh.now.receivers.items c.loop-seat.mesh.senders.items c.take_last.new.inboxes.items c.in-Ok-take_last.senders.items long count all c.in-Ok-take_last.ensures.lasts
    ∙ ap (λ (n : ℕ). map (λ receiver. fresh_sender receiver.inbox n) c.args.mesh.now.receivers.items) (sym c.new.ensures.number)
    ∙ ap (λ (v : Vec (ReceiverLog (Item Any AnyMsg AnyState)) Global). map (λ receiver. fresh_sender receiver.inbox c.new.result.owner.number) v.items) (sym c.of-inboxes.ensures)
