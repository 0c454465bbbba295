-- A member is at the position of its number, and at no other.
use Rattle.std.proofs.Common.{◌≡◌, ◌∙◌, ℕ, true, Option, Some, ap, eq-eqb, refl, subst, sym}
use Rattle.std.proofs.Math.Dec.{eqb}
use Rattle.std.proofs.lemmas.Bool.{true≢false}
use Rattle.std.proofs.lemmas.Option.{same_Some}
use Rattle.std.specs.List.{slice_get}
use Rattle.std.specs.Option.{option_eq}
use Rattle.ring_roster.specs.Ring.{position_of}
use Rattle.ring_terms.proofs.Members.{position_of-at, position_of-member}
use Rattle.ring_recovery.proofs.replay.position_of.Goals as goal

pub returns-in_default-clause-none : goal.returns-in_default-clause-none
returns-in_default-clause-none c = λ at there. position_of-member c.args.member c.args.ring.now at there
    (ap (λ number. position_of number c.args.ring.now) (sym c.number.ensures.value) ∙ sym c.position.ensures ∙ c.in_default.is)

-- a member that is found is the same
is_same : (found : Option ℕ) (member : ℕ) → found ≡ Some member → option_eq eqb found (Some member) ≡ true
is_same found member is = subst (λ (f : Option ℕ). option_eq eqb f (Some member) ≡ true) (sym is) (eq-eqb member member refl)

pub returns-clause-none : goal.returns-clause-none
returns-clause-none c = λ at there.
    let ring = c.args.ring.now in
    let number = ap (λ n. position_of n ring) c.number.ensures.value in
    let here = same_Some _ _ (c.in-Some.ensures ∙ number ∙ position_of-at ring at c.args.member c.at.ensures.ring.distinct there) in
    let found = c.at.ensures.value ∙ ap (λ i. slice_get ring i) here ∙ there in
    true≢false (sym (is_same _ _ found) ∙ sym c.eq.ensures ∙ c.if-eq.false)
