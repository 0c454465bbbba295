-- The begins have the charters that the access gave, or there are none.
use Rattle.std.proofs.Common.{◌≡◌, ◌++◌, List, [], arith, refl, ap, ◌∙◌, inl, vec_len}
use Rattle.ring_service.specs.declared.pending.Waiting.{Waiting}
use Rattle.ring_service.specs.private.PendingBegins.{begins_from}
use Rattle.ring_service.proofs.Posting.{tells_none}
use Rattle.ring_service.proofs.front.Front.begin_by.Goals as goal

pub returns-in_default-clause-begins : goal.returns-in_default-clause-begins
returns-in_default-clause-begins g c = record {
  charters = [];
  gives = (inl refl, refl, refl);
  tells = rw (c.find_room.ensures.waiting, c.find_room.ensures.passes) (tells_none _ _ _ _ c.try_waiting.ensures);
}

pub returns-clause-begins : goal.returns-clause-begins
returns-clause-begins g c =
    let many : c.workers.result ≡ vec_len c.args.pending.now.passes = omega (arith, c.workers.ensures, ap (λ p. vec_len p) c.find_room.ensures.passes, c.try_waiting.ensures.passes.count, c.try_waiting.new.self.passes.ok.0, c.args.pending.now.passes.ok.0) in
    let waits : c.add.new.self.waiting.items ≡ c.try_waiting.new.self.waiting.items ++ begins_from 0 c.begin-answer.result.1.items =
    c.add.ensures.waiting ∙ ap (λ (l : List Waiting). l ++ begins_from 0 c.begin-answer.result.1.items) c.find_room.ensures.waiting in
    let lends : c.add.new.self.passes.items ≡ c.try_waiting.new.self.passes.items = ap (λ p. p.items) (c.add.ensures.passes ∙ c.find_room.ensures.passes) in
    record {
      charters = c.begin-answer.result.1.items;
      gives = rw many at c.begin-answer.ensures.entry;
      tells = record {
        mid = c.try_waiting.new.self.waiting.items;
        between = c.try_waiting.new.self.passes.items;
        first = c.try_waiting.ensures;
        last = rw (waits, lends) at c.try_waiting-2.ensures;
      };
    }
