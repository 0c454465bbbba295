-- Whether a node is seated is told by its place.
use Rattle.std.proofs.Common.{◌≡◌, length, Some, None, slice_get, refl, ap, ◌∙◌, subst, inl, inr}
use Rattle.std.proofs.lemmas.Option.{slice_get_past, slice_get_read}
use Rattle.ring_workers.specs.private.Seatings.{IsSeating}
use Rattle.ring_workers.proofs.Seatings.{node_there}
use Rattle.ring_workers.proofs.term_nodes.TermNodes.is_seated.Goals as goal

pub returns-in-Some-Some : goal.returns-in-Some-Some
returns-in-Some-Some g c =
    let here = slice_get_read c.deref.result.now (length c.deref.result.now) c.args.position c.in-Some-Some.field-0.now refl c.in-Some-Some.ensures.lookup.3.0 c.in-Some-Some.ensures.lookup.1 in
    let seats = subst (λ s. IsSeating s.number s.workers s.charter s.places) c.self.view_is c.self.invariant.0 in
    node_there c.args.self.now.number c.args.self.now.workers c.args.self.now.charter c.args.self.now.places c.args.position c.in-Some-Some.field-0-0 seats
    (subst (λ ps. slice_get ps c.args.position ≡ Some (Some c.in-Some-Some.field-0-0)) (c.deref.ensures.value ∙ ap (λ s. s.places) c.self.view_is) (here ∙ ap Some c.in-Some-Some.field-0-is))

pub returns-in-Some-None : goal.returns-in-Some-None
returns-in-Some-None g c =
    let here = slice_get_read c.deref.result.now (length c.deref.result.now) c.args.position c.in-Some-None.field-0.now refl c.in-Some-None.ensures.lookup.3.0 c.in-Some-None.ensures.lookup.1 in
    inl (subst (λ ps. slice_get ps c.args.position ≡ Some None) (c.deref.ensures.value ∙ ap (λ s. s.places) c.self.view_is) (here ∙ ap Some c.in-Some-None.field-0-is))

pub returns-in-None : goal.returns-in-None
returns-in-None g c =
    inr (subst (λ ps. slice_get ps c.args.position ≡ None) (c.deref.ensures.value ∙ ap (λ s. s.places) c.self.view_is) (slice_get_past c.deref.result.now c.args.position c.in-None.ensures.lookup.3))
