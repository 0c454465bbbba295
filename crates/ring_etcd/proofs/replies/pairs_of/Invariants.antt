use Rattle.std.proofs.Common.{map, take}
use Rattle.serde_json.specs.View.{view}
use Rattle.ring_etcd.specs.private.Paging.{ArePairs}
use Rattle.ring_etcd.proofs.replies.pairs_of.Given as goal

-- the pairs are the items so far
abbrev pub invariant-loop-item : goal.invariant-loop-item
invariant-loop-item l = ArePairs (map view (take l.item-index l.found)) l.pairs.items
