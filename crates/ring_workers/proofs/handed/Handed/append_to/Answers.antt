-- A list that has room for the count has room for all nodes: no list has room for the greatest number.
use Rattle.std.proofs.Common.{◌+◌, ◌≤◌, ◌<◌, ◌++◌, ap, ◌∙◌, arith, vec_len, vec_capacity}
use Rattle.ring_workers.specs.Holdings.{nodes_of}
use Rattle.ring_workers.proofs.Handling.{room_found, room_lacking}
use Rattle.ring_workers.proofs.handed.Handed.append_to.Goals as goal

pub append_to-requires : goal.append_to-requires
append_to-requires g c =
    let room = room_found c.reserve.result (vec_len c.reserve.new.self + c.count.result ≤ vec_capacity c.reserve.new.self) c.reserve.ensures.ok c.if-is_err.ensures.value in
    omega (arith, room, c.count.ensures, c.reserve.new.self.small)

pub returns-then-is_err-clause-full : goal.returns-then-is_err-clause-full
returns-then-is_err-clause-full g c =
    let lacking = room_lacking c.reserve.result (vec_capacity c.args.nodes.now < vec_len c.args.nodes.now + c.count.result) c.reserve.ensures.full c.if-is_err.ensures.value in
    omega (arith, lacking, c.count.ensures)

pub returns-clause-moved : goal.returns-clause-moved
returns-clause-moved g c = c.append_to.ensures ∙ ap (λ held. held ++ nodes_of c.args.self.nodes) c.reserve.ensures.items
