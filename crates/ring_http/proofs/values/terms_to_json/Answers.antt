-- All terms were pushed.
use Rattle.std.proofs.Common.{◌∙◌, ◌++◌, List, ap, append-nil, arith, map, sym, rules}
use Rattle.std.proofs.lemmas.List.{drop_all}
use Rattle.serde_json.specs.Data.{Data, array}
use Rattle.serde_json.specs.View.{items_of, view}
use Rattle.serde_json.proofs.Views.{view-Array}
use Rattle.ring_http.specs.Json.{terms_from}
use Rattle.ring_http.proofs.values.terms_to_json.Goals as goal

pub returns : goal.returns
returns c =
    let pushed = map view c.loop-leader.list.items in
    let index = c.loop-leader.leader-index in
    let over = drop_all index c.args.leaders.now (omega (arith, c.loop-leader-test.false)) in
    let none = ap (λ rest. pushed ++ terms_from c.loop-leader.term rest) over in
    view-Array c.loop-leader.list
    ∙ ap (λ (values : List Data). array (items_of values))
    (sym (append-nil pushed) ∙ sym none ∙ c.loop-leader.invariant.built)

pub loop-leader-init : goal.loop-leader-init
loop-leader-init c = search rules
