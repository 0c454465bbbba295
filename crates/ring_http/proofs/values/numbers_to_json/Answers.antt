-- All numbers were pushed.
use Rattle.std.proofs.Common.{◌∙◌, List, ap, arith, map}
use Rattle.std.proofs.lemmas.List.{take_all}
use Rattle.serde_json.specs.Data.{Data, array}
use Rattle.serde_json.specs.View.{items_of}
use Rattle.serde_json.proofs.Views.{view-Array}
use Rattle.ring_http.specs.Json.{natural}
use Rattle.ring_http.proofs.values.numbers_to_json.Goals as goal

pub returns : goal.returns
returns c =
    let index = c.loop-number.number-index in
    let all = take_all index c.args.numbers.now (omega (arith, c.loop-number-test.false)) in
    view-Array c.loop-number.list
    ∙ ap (λ (values : List Data). array (items_of values))
    (c.loop-number.invariant ∙ ap (map natural) all)
