use Rattle.std.proofs.Common.{◌≡◌, map, take}
use Rattle.serde_json.specs.View.{view}
use Rattle.ring_http.specs.Json.{natural}
use Rattle.ring_http.proofs.values.numbers_to_json.Given as goal

-- the values of the first numbers
abbrev pub invariant-loop-number : goal.invariant-loop-number
invariant-loop-number l = map view l.list.items ≡ map natural (take l.number-index l.numbers)
