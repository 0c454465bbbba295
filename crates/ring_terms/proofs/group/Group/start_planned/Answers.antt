-- One more term, of the planned charter; none if an allocation failed.
use Rattle.std.proofs.Common.{◌≡◌, [], ◌∷◌, ◌++◌, map, refl, sym, ◌∙◌, ap, arith}
use Rattle.std.proofs.lemmas.List.{length-map, length_push, map_push}
use Rattle.ring_terms.specs.Books.{group_view, term_view}
use Rattle.ring_terms.specs.Object.{new_term}
use Rattle.ring_terms.proofs.GroupFacts.{each_after_push, next_term, start_allowed}
use Rattle.ring_terms.proofs.group.Group.start_planned.Goals as goal

pub returns-in_default-clause-kept : goal.returns-in_default-clause-kept
returns-in_default-clause-kept g c =
    let kept = c.requires.kept in
    record {
      named = refl;
      few = kept.few;
      distinct = kept.distinct;
      short = rw c.in_default.ensures.items kept.short;
      each = rw c.in_default.ensures.items kept.each;
    }

-- A term that isn't added leaves the terms as they were, and nothing else is written.
pub returns-in_default-clause-err : goal.returns-in_default-clause-err
returns-in_default-clause-err g c =
    ap (λ ts. record (group_view c.args.self.now) { terms = map (term_view {E = g.row.E.Denot}) ts }) c.in_default.ensures.items

pub returns-clause-kept : goal.returns-clause-kept
returns-clause-kept g c =
    let this = c.args.self.now in
    let kept = c.requires.kept in
    let term = c.in_ok-term.term in
    let allowed = start_allowed (group_view this) c.requires.allowed in
    let shared = ap (λ ch. ch.value) c.in_ok-term.ensures.charter ∙ c.requires.planned in
    let fresh = c.in_ok-term.ensures.fresh ∙ ap (λ a. new_term a.value.roster) (sym c.in_ok-term.ensures.charter) in
    let of = next_term g.E.RingElection.winner this.name this kept term shared fresh (record { some = allowed.0; short = kept.few; distinct = kept.distinct }) in
    record {
      named = refl;
      few = kept.few;
      distinct = kept.distinct;
      short = rw c.in-Ok.ensures.items (omega (arith, length_push this.terms.items term, allowed.1, length-map this.terms.items (term_view {E = g.row.E.Denot})));
      each = rw c.in-Ok.ensures.items (each_after_push g.E.RingElection.winner this.name this kept term of);
    }

pub returns-clause-started : goal.returns-clause-started
returns-clause-started g c =
    let this = c.args.self.now in
    let view = term_view {E = g.row.E.Denot} in
    let shown : view c.in_ok-term.term ≡ new_term this.members.items = c.in_ok-term.ensures.fresh ∙ ap (λ charter. new_term charter.roster) c.requires.planned in
    let pushed = ap (map view) c.in-Ok.ensures.items ∙ map_push view this.terms.items c.in_ok-term.term ∙ ap (λ v. map view this.terms.items ++ v ∷ []) shown in
    record {
      chartered = c.requires.planned;
      starts = record {
        numbered = ap (λ charter. charter.term) c.requires.planned;
        started = ap (λ ts. record (group_view this) { terms = ts }) pushed;
      };
    }
