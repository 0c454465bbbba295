use Rattle.std.proofs.Common.{◌≡◌, ◌+◌, take}
use Rattle.std.specs.Prelude.{string_bytes}
use Rattle.ring_etcd.specs.Entries.{AreAdded}
use Rattle.ring_etcd.specs.Keys.{codes_from, entry_code}
use Rattle.ring_etcd.specs.private.Paging.{keys_of, values_of}
use Rattle.ring_etcd.proofs.store.Store.add_entries.Given as goal

-- the entries so far were added
abbrev pub invariant-loop-pair : goal.invariant-loop-pair
invariant-loop-pair g l = record {
  count : l.next ≡ l.fn.next + l.pair-index;
  keys : keys_of (take l.pair-index l.page) ≡ codes_from (entry_code (string_bytes l.self.keys.name) l.text) l.fn.next (values_of (take l.pair-index l.page));
  bytes : AreAdded (values_of (take l.pair-index l.page)) l.fn.found.items l.found.items;
}
