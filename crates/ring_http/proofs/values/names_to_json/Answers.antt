-- The names are texts, and all of them were pushed.
use Rattle.std.proofs.Common.{◌∙◌, List, ap, arith, map}
use Rattle.std.proofs.lemmas.List.{take_all}
use Rattle.serde_json.specs.Data.{Data, array, string}
use Rattle.serde_json.specs.View.{items_of}
use Rattle.serde_json.proofs.Views.{view-Array}
use Rattle.ring_http.proofs.Words.{name_utf8}
use Rattle.ring_http.proofs.values.names_to_json.Goals as goal

pub text_of-requires : goal.text_of-requires
text_of-requires c = name_utf8 _ c.bytes.ensures.name

pub returns : goal.returns
returns c =
    let index = c.loop-name.name-index in
    let all = take_all index c.args.names.now (omega (arith, c.loop-name-test.false)) in
    view-Array c.loop-name.list
    ∙ ap (λ (values : List Data). array (items_of values))
    (c.loop-name.invariant ∙ ap (map string) all)
