-- The names are those of the book's groups, so the next one is the name of the next group.
use Rattle.std.proofs.Common.{◌≡◌, ◌∙◌, ◌++◌, [], Some, ap, subst, sym}
use Rattle.std.specs.List.{slice_get}
use Rattle.std.proofs.lemmas.Option.{slice_get-get_or}
use Rattle.ring_terms.specs.Charters.{running_in}
use Rattle.ring_lives.specs.Changes.{onto}
use Rattle.ring_recovery.proofs.Chartering.{charters_more}
use Rattle.ring_recovery.proofs.charters.charters_of.Goals as goal

pub loop-name-preserved : goal.loop-name-preserved
loop-name-preserved g c =
    let name = c.name-item.result in
    let names = c.as_slice-name-items.ensures ∙ c.in-Ok.ensures.1 in
    let there = slice_get-get_or c.as_slice-name-items.result.now c.loop-name.name-index name c.loop-name-test.true ∙ ap Some (sym c.name-item.is) in
    let here = subst (λ all. slice_get all c.loop-name.name-index ≡ Some name) names there in
    c.in_ok-add_running.ensures
    ∙ ap (λ charters. charters ++ onto (running_in name c.args.book.now) []) c.loop-name.invariant
    ∙ sym (charters_more g.E.RingElection.winner c.args.book.now c.loop-name.name-index name c.len.ensures.kept here)
