use Rattle.std.proofs.Common.{◌≡◌, map, take}
use Rattle.serde_json.specs.View.{view}
use Rattle.ring_http.specs.Json.{node_value}
use Rattle.ring_http.proofs.values.members_to_json.Given as goal

-- the values of the first members
abbrev pub invariant-loop-member : goal.invariant-loop-member
invariant-loop-member l = map view l.list.items ≡ map node_value (take l.member-index l.members)
