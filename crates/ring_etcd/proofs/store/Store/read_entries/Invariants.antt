use Rattle.std.proofs.Common.{◌≡◌}
use Rattle.std.specs.Prelude.{string_bytes}
use Rattle.ring_etcd.specs.Readings.{AreEntries}
use Rattle.ring_etcd.proofs.store.Store.read_entries.Given as goal

-- what the entries of the pages so far add was put after the old bytes
abbrev pub invariant-loop : goal.invariant-loop
invariant-loop g l = record {
  keys : l.self.keys ≡ l.fn.self.keys;
  read : AreEntries (string_bytes l.fn.self.keys.name) l.base.text l.fn.first l.next l.fn.found.items l.found.items;
}
