-- Two lists are the same if they have one length and each pair of their elements is equal.
use Rattle.std.proofs.Common.{◌≡◌, ℕ, ◌+◌, ◌<◌, ◌↔◌, ◌&&◌, Bool, true, false, IsTrue, List, get_or, length, nat_eq, refl, sym, ap, ◌∙◌, inl, inr, arith}
use Rattle.std.proofs.lemmas.Bool.{cases_lt}
use Rattle.std.proofs.lemmas.Bool.Decides.{nat_tests}
use Rattle.std.proofs.lemmas.Grind.{get_or_default_zero}
use Rattle.std.proofs.lemmas.List.{ext_get_or}
use Rattle.ring_id.proofs.identity.same_ids.Goals as goal

abbrev Agree : List ℕ → List ℕ → ℕ → Type 0
Agree a b n = (k : ℕ) → k < n → get_or a k 0 ≡ get_or b k 0

both : (p q : Bool) → p && q ≡ true → (p ≡ true) × (q ≡ true)
both true true h = (refl, refl)
both true false h = cc
both false q h = cc

one_more : (a b : List ℕ) (n : ℕ) → Agree a b n → get_or a n 0 ≡ get_or b n 0 → Agree a b (n + 1)
one_more a b n before here = λ k below.
    elim (cases_lt k n) [
      | inl low ↦ before k low
      | inr past ↦ let at : k ≡ n = omega arith in rw at here
    ]

pair_next : (a b : List ℕ) (n : ℕ) (same equal : Bool) → equal ≡ nat_eq (get_or a n 0) (get_or b n 0) → IsTrue same ↔ Agree a b n → IsTrue (same && equal) ↔ Agree a b (n + 1)
pair_next a b n same equal is before = (
  λ h. let parts = both same equal h in one_more a b n (before.0 (parts.0)) (let e : nat_eq (get_or a n 0) (get_or b n 0) ≡ true = sym is ∙ parts.1 in grind (arith, nat_tests)),
  λ agree.
      let here : get_or a n 0 ≡ get_or b n 0 = agree n (omega arith) in
      let equal_is : equal ≡ true = is ∙ grind (arith, nat_tests) in
      rw (before.1 (λ k low. agree k (omega arith)), equal_is) refl,
)

pub loop-place-init : goal.loop-place-init
loop-place-init c = (λ _ k below. absurd (omega arith), λ _. refl)

pub loop-place-preserved : goal.loop-place-preserved
loop-place-preserved c =
    let a = c.args.a.now in
    let b = c.args.b.now in
    let n = c.loop-place.place in
    let in_a : c.index-a-place.result ≡ get_or a n 0 = c.index-a-place.is ∙ get_or_default_zero a n c.index-a-place.result c.loop-place-test.true in
    let in_b : c.index-b-place.result ≡ get_or b n 0 = c.index-b-place.is ∙ get_or_default_zero b n c.index-b-place.result (omega (arith, c.loop-place-test.true, c.if-a-b.false)) in
    pair_next a b n c.loop-place.same c.eq-same.result (rw (in_a, in_b) at c.eq-same.ensures) c.loop-place.invariant

pub returns : goal.returns
returns c =
    let a = c.args.a.now in
    let b = c.args.b.now in
    let whole : c.loop-place.place ≡ length a = omega (arith, c.loop-place-test.false, c.loop-place.auto.place-end) in (
      λ same. ext_get_or 0 a b c.if-a-b.false (λ k below. (c.loop-place.invariant).0 same k (omega (arith, whole, below))),
      λ is. (c.loop-place.invariant).1 (λ k below. ap (λ (l : List ℕ). get_or l k 0) is),
    )
