use Rattle.std.proofs.Common.{◌≡◌, ◌+◌, length}
use Rattle.std.specs.Vec.Iter.{into_iter_items}
use Rattle.ring_accept.proofs.serving.fn.accept_all.scope.Given as goal

-- for each handler a client was accepted, or the handler is still to come
abbrev pub invariant-loop-handler : goal.invariant-loop-handler
invariant-loop-handler g l =
    (goal.iterator-loop-handler g).can_next l.handler-iterator × (goal.iterator-loop-handler g).is_finite l.handler-iterator × (l.accepted + length (into_iter_items l.handler-iterator) ≡ length (into_iter_items l.initial.handler-iterator))
