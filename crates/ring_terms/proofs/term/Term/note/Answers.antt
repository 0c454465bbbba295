-- A report of this term's charter is of the member at its position of the ring, and of the winner of the ring.
use Rattle.std.proofs.Common.{◌≡◌, ◌∙◌, ap, rules, subst}
use Rattle.std.specs.Prelude.{Some, slice_get, slice_index}
use Rattle.std.proofs.lemmas.Option.{get_or_from_slice_get, slice_get_within}
use Rattle.ring_node.specs.declared.charter.Charter.{Charter}
use Rattle.ring_node.specs.Reports.{Told}
use Rattle.ring_terms.specs.private.Books.{NotesTerm}
use Rattle.ring_terms.proofs.term.Term.note.Goals as goal

pub inform-requires-clause-inside : goal.inform-requires-clause-inside
inform-requires-clause-inside g c =
    let same : c.args.self.now.charter.value ≡ c.args.report.now.charter = search rules in
    slice_get_within _ _ _ (ap (λ (charter : Charter g.row.E.Denot). slice_get charter.roster c.position.result) same ∙ c.position.ensures.there)

pub inform-requires-clause-wins : goal.inform-requires-clause-wins
inform-requires-clause-wins g c =
    let same : c.args.self.now.charter.value ≡ c.args.report.now.charter = search rules in
    c.leader.ensures.value ∙ (rw (← same) at c.leader.ensures.truthful.wins)

pub returns-clause-notes : goal.returns-clause-notes
returns-clause-notes g c =
    let same : c.args.self.now.charter.value ≡ c.args.report.now.charter = search rules in
    let there : slice_get c.args.self.now.charter.value.roster c.position.result ≡ Some c.args.report.now.member =
    ap (λ (charter : Charter g.row.E.Denot). slice_get charter.roster c.position.result) same ∙ c.position.ensures.there in
    let member : slice_index c.args.self.now.charter.value.roster c.position.result ≡ c.args.report.now.member = get_or_from_slice_get c.args.self.now.charter.value.roster c.position.result c.args.report.now.member 0 there in
    subst (λ (told : Told g.row.E.Denot). NotesTerm g.E.RingElection.is_greatest told c.args.self.now c.inform.result c.inform.new.self)
    (λ j. record { charter = same j; member = member j; leader = c.leader.ensures.value j }) c.inform.ensures.notes
