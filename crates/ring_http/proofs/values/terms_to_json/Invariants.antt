use Rattle.std.proofs.Common.{◌≡◌, ◌+◌, ◌++◌, drop, map}
use Rattle.serde_json.specs.View.{view}
use Rattle.ring_http.specs.Json.{terms_from}
use Rattle.ring_http.proofs.values.terms_to_json.Given as goal

-- the values of the first terms, and those that follow
abbrev pub invariant-loop-leader : goal.invariant-loop-leader
invariant-loop-leader l = record {
  next : l.term ≡ l.leader-index + 1;
  built : map view l.list.items ++ terms_from l.term (drop l.leader-index l.leaders)
      ≡ terms_from 1 l.leaders;
}
