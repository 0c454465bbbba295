-- A begin that still waits waited before, for the same worker.
use Rattle.std.proofs.Common.{◌≡◌, ◌<◌, Some, length, slice_get, refl, arith, vec_len}
use Rattle.std.proofs.lemmas.List.Elements.{All-drop, All-push}
use Rattle.std.proofs.lemmas.Option.{slice_get_read}
use Rattle.ring_service.proofs.Posting.{all_first, tries_all, tries_kept, tries_none, tries_stored}
use Rattle.ring_service.proofs.pending.PendingBegins.try_waiting.Goals as goal
use Rattle.ring_service.proofs.pending.PendingBegins.try_waiting.Goals.{in-Some-put_begin, in_default-put_begin}

pub invariant_of-self-in_default-put_begin : goal.invariant_of-self-in_default-put_begin
invariant_of-self-in_default-put_begin g c =
    record { known = rw c.pop_front.ensures.rest (All-drop (λ begin. begin.worker < vec_len c.loop.self.passes) 1 c.loop.self.waiting.items c.loop.self.known) }

pub loop-init : goal.loop-init
loop-init g c = tries_none c.args.self.now.waiting.items c.args.self.now.passes.items

pub loop-preserved : goal.loop-preserved
loop-preserved g c =
    let within : c.in-Some.field-0.worker < vec_len c.loop.self.passes =
    all_first (λ begin. begin.worker < vec_len c.loop.self.passes) c.loop.self.waiting.items c.pop_front.new.self.items c.in-Some.field-0 c.in-Some.ensures.items c.loop.self.known in
    let there : slice_get c.loop.self.passes.items c.in-Some.field-0.worker ≡ Some c.index_mut.result.now =
    slice_get_read c.loop.self.passes.items (vec_len c.loop.self.passes) c.in-Some.field-0.worker c.index_mut.result.now c.loop.self.passes.ok.0 within c.index_mut.ensures.value in
    let fewer : c.loop.counter < length c.args.self.now.waiting.items = omega arith in
    elim c.match-put_begin.branch [
      | in-Some-put_begin w ↦
          rw w.self-is
          (tries_kept c.loop.counter c.args.self.now.waiting.items c.loop.self.waiting.items c.pop_front.new.self.items w.push_back_reserved.new.self.items c.in-Some.field-0
          (record { worker = c.in-Some.field-0.worker; charter = w.in-Some-put_begin.charter }) c.args.self.now.passes.items c.loop.self.passes.items c.index_mut.result.now c.put_begin.new.pass
          c.loop.invariant c.in-Some.ensures.items fewer there w.in-Some-put_begin.ensures.1 (rw w.in-Some-put_begin.ensures.0 refl) w.push_back_reserved.ensures.items)
      | in_default-put_begin w ↦
          rw w.self-is
          (tries_stored c.loop.counter c.args.self.now.waiting.items c.loop.self.waiting.items c.pop_front.new.self.items c.in-Some.field-0 c.args.self.now.passes.items c.loop.self.passes.items
          c.index_mut.result.now c.put_begin.new.pass c.loop.invariant c.in-Some.ensures.items fewer there w.in_default-put_begin.ensures)
    ]

pub returns : goal.returns
returns g c =
    tries_all c.loop.counter c.args.self.now.waiting.items c.loop.self.waiting.items c.args.self.now.passes.items c.loop.self.passes.items c.loop.invariant (omega arith)

-- The begin that is tried was for a worker that has a pass.
pub index_mut-requires : goal.index_mut-requires
index_mut-requires g c =
    all_first (λ begin. begin.worker < vec_len c.loop.self.passes) c.loop.self.waiting.items c.pop_front.new.self.items c.in-Some.field-0 c.in-Some.ensures.items c.loop.self.known

-- A begin that waits on is for the same worker.
pub invariant_of-self-in-Some-put_begin : goal.invariant_of-self-in-Some-put_begin
invariant_of-self-in-Some-put_begin g c =
    let within : c.in-Some.field-0.worker < vec_len c.loop.self.passes =
    all_first (λ begin. begin.worker < vec_len c.loop.self.passes) c.loop.self.waiting.items c.pop_front.new.self.items c.in-Some.field-0 c.in-Some.ensures.items c.loop.self.known in
    record {
      known = rw (c.push_back_reserved.ensures.items, c.pop_front.ensures.rest)
          (All-push (λ begin. begin.worker < vec_len c.loop.self.passes) _ _ (All-drop (λ begin. begin.worker < vec_len c.loop.self.passes) 1 c.loop.self.waiting.items c.loop.self.known) within);
    }
