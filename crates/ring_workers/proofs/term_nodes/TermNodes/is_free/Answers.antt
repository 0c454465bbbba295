-- A node that the owner owns is free where it is not seated.
use Rattle.std.proofs.Common.{◌≡◌, slice_get, ap, sym, ◌∙◌, subst}
use Rattle.ring_workers.specs.Owners.{owner_of}
use Rattle.ring_workers.specs.private.Seatings.{IsSeating}
use Rattle.ring_workers.proofs.Seatings.{free_there, none_not_free, opposite, other_not_free, seated_not_free}
use Rattle.ring_workers.proofs.term_nodes.TermNodes.is_free.Goals as goal

pub returns : goal.returns
returns g c =
    let seats = subst (λ s. IsSeating s.number s.workers s.charter s.places) c.self.view_is c.self.invariant.0 in
    let owned : owner_of c.args.self.now.workers c.in-Some.member ≡ c.args.self.now.number =
    ap (λ s. owner_of s.workers c.in-Some.member) (sym c.self.view_is) ∙ sym c.of.ensures.value ∙ c.if-of-self.false ∙ ap (λ s. s.number) c.self.view_is in
    let at = c.in-Some.ensures.value ∙ ap (λ r. slice_get r c.args.position) (c.roster.ensures ∙ ap (λ ch. ch.roster) c.deref.ensures ∙ ap (λ s. s.charter.roster) c.self.view_is) in
    opposite c.is_seated.result _ _ _ c.is_seated.ensures
    (free_there c.args.self.now seats c.args.position c.in-Some.member at owned)
    (seated_not_free c.args.self.now seats c.args.position)

pub returns-in_default : goal.returns-in_default
returns-in_default g c =
    none_not_free c.args.self.now c.args.position
    (c.in_default.ensures.value ∙ ap (λ r. slice_get r c.args.position) (c.roster.ensures ∙ ap (λ ch. ch.roster) c.deref.ensures ∙ ap (λ s. s.charter.roster) c.self.view_is))

pub returns-then-of-self : goal.returns-then-of-self
returns-then-of-self g c =
    let seats = subst (λ s. IsSeating s.number s.workers s.charter s.places) c.self.view_is c.self.invariant.0 in
    let at = c.in-Some.ensures.value ∙ ap (λ r. slice_get r c.args.position) (c.roster.ensures ∙ ap (λ ch. ch.roster) c.deref.ensures ∙ ap (λ s. s.charter.roster) c.self.view_is) in
    other_not_free c.args.self.now seats c.args.position c.in-Some.member at
    (λ own. c.if-of-self.true (c.of.ensures.value ∙ ap (λ s. owner_of s.workers c.in-Some.member) c.self.view_is ∙ own ∙ ap (λ s. s.number) (sym c.self.view_is)))
