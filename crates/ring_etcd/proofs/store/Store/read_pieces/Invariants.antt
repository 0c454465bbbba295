use Rattle.std.proofs.Common.{◌≡◌}
use Rattle.std.specs.Prelude.{string_bytes}
use Rattle.ring_etcd.specs.Readings.{ArePieces}
use Rattle.ring_etcd.proofs.store.Store.read_pieces.Given as goal

-- the pieces of the pages so far were put after the old bytes
abbrev pub invariant-loop : goal.invariant-loop
invariant-loop g l = record {
  keys : l.self.keys ≡ l.fn.self.keys;
  read : ArePieces (string_bytes l.fn.self.keys.name) l.base.text l.next l.fn.found.items l.found.items;
}
