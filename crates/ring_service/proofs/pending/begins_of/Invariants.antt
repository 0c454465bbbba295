use Rattle.std.proofs.Common.{◌≡◌, ◌<◌, ◌++◌, All, map, take}
use Rattle.std.specs.List.{flat_map}
use Rattle.ring_service.specs.private.PendingBegins.{says, term_begins}
use Rattle.ring_service.proofs.pending.begins_of.Given as goal

-- the begins of the terms so far
abbrev pub invariant-loop-charter : goal.invariant-loop-charter
invariant-loop-charter l = record {
  said : map says l.begins.items ≡ flat_map (term_begins l.workers) (take l.charter-index l.charters);
  known : All (λ begin. begin.worker < l.workers) l.begins.items;
}

-- and those of the next term for the workers so far
abbrev pub invariant-loop-worker : goal.invariant-loop-worker
invariant-loop-worker l = record {
  said : map says l.begins.items ≡ flat_map (term_begins l.workers) (take l.charter-index l.charters) ++ term_begins l.worker l.charter;
  known : All (λ begin. begin.worker < l.workers) l.begins.items;
}
