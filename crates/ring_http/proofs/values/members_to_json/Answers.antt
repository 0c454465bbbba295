-- All identities were pushed.
use Rattle.std.proofs.Common.{◌∙◌, List, ap, arith, map}
use Rattle.std.proofs.lemmas.List.{take_all}
use Rattle.serde_json.specs.Data.{Data, array}
use Rattle.serde_json.specs.View.{items_of}
use Rattle.serde_json.proofs.Views.{view-Array}
use Rattle.ring_http.specs.Json.{node_value}
use Rattle.ring_http.proofs.values.members_to_json.Goals as goal

pub returns : goal.returns
returns c =
    let index = c.loop-member.member-index in
    let all = take_all index c.args.members.now (omega (arith, c.loop-member-test.false)) in
    view-Array c.loop-member.list
    ∙ ap (λ (values : List Data). array (items_of values))
    (c.loop-member.invariant ∙ ap (map node_value) all)
