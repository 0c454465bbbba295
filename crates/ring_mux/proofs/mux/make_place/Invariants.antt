use Rattle.std.proofs.Common.{◌≡◌, ◌+◌, ◌≤◌, ◌++◌, replicate, None, vec_len, vec_capacity}
use Rattle.ring_mux.proofs.mux.make_place.Given as goal

-- so many places are new, and there is room for the others
abbrev pub invariant-loop : goal.invariant-loop
invariant-loop g l = record {
  items : l.list.items ≡ l.fn.list.items ++ replicate l.counter None;
  len : vec_len l.list ≡ vec_len l.fn.list + l.counter;
  room : vec_len l.fn.list + l.more ≤ vec_capacity l.list;
}
