-- The list's element at the position, copied.
use Rattle.std.proofs.Common.{◌≡◌, ℕ, ◌<◌, ◌≤◌, List, [], ◌∷◌, zero, suc, Option, None, Some, IfSome, MatchOption, Bor, length, get_or, refl, ap, sym, ◌∙◌, arith, slice_get, option_copied, rules}
use Rattle.std.specs.List.{HoldsAt}
use Rattle.std.proofs.lemmas.Option.{slice_get_read}
use Rattle.ring_roster.proofs.members.Members.at.Goals as goal

-- past the last there is none
none_past : (xs : List ℕ) (i : ℕ) → length xs ≤ i → slice_get xs i ≡ None
none_past [] i past = refl
none_past (x ∷ xs) zero past = absurd (omega arith)
none_past (x ∷ xs) (suc i) past = none_past xs i (omega arith)

-- the copied element is the element at the place
copied_at : (r : Option (Bor ℕ)) (xs : List ℕ) (i : ℕ)
    → IfSome r (λ x. x.now ≡ get_or xs i x.now)
    → MatchOption r (length xs ≤ i) (λ x. (i < length xs) × HoldsAt (λ y. x.now ≡ y) xs i)
    → option_copied r ≡ slice_get xs i
copied_at None xs i same there = sym (none_past xs i there)
copied_at (Some x) xs i same there = sym (slice_get_read xs (length xs) i x.now refl there.0 same)

pub returns-clause-value : goal.returns-clause-value
returns-clause-value c =
    let list : c.deref.result.now ≡ c.args.self.now = search rules in
    c.copied.ensures ∙ copied_at c.get.result c.deref.result.now c.args.position c.get.ensures.lookup.1 c.get.ensures.lookup.3 ∙ ap (λ l. slice_get l c.args.position) list
