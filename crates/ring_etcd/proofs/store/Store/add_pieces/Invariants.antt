use Rattle.std.proofs.Common.{◌≡◌, ◌+◌, ◌++◌, take}
use Rattle.std.specs.Prelude.{string_bytes}
use Rattle.ring_etcd.specs.Holding.{joined}
use Rattle.ring_etcd.specs.Keys.{codes_from, piece_code}
use Rattle.ring_etcd.specs.private.Paging.{keys_of, values_of}
use Rattle.ring_etcd.proofs.store.Store.add_pieces.Given as goal

-- the pieces so far were added
abbrev pub invariant-loop-pair : goal.invariant-loop-pair
invariant-loop-pair g l = record {
  count : l.next ≡ l.fn.next + l.pair-index;
  keys : keys_of (take l.pair-index l.page) ≡ codes_from (piece_code (string_bytes l.self.keys.name) l.text) l.fn.next (values_of (take l.pair-index l.page));
  bytes : l.found.items ≡ l.fn.found.items ++ joined (values_of (take l.pair-index l.page));
}
