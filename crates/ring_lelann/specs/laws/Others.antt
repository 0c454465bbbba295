-- Lists of identities without one of them, and lists in which it is last.
use Rattle.std.specs.Prelude.{◌≡◌, ◌≢◌, ◌==◌, ℕ, true, false, not, List, [], ◌∷◌, ◌++◌, length, filter, refl}
use Rattle.std.proofs.Common.{◌∙◌, ap, append-nil, arith}
use Rattle.std.proofs.lemmas.Bool.Decides.{nat_tests}
use Rattle.std.proofs.lemmas.List.{length-append}
use Rattle.std.proofs.lemmas.List.Elements.{filter-append}
use Rattle.ring_election.proofs.Members.{IsIn, in_filter, in_first, in_rest}

-- these identities without one of them
abbrev pub without : ℕ → List ℕ → List ℕ
without me = filter (λ v. not (v == me))

-- two lists without it, joined, are the joined lists without it
pub without-append : (me : ℕ) (xs ys : List ℕ) → without me (xs ++ ys) ≡ without me xs ++ without me ys
without-append me xs ys = filter-append (λ v. not (v == me)) xs ys

-- every other identity stays
pub in_without : (me v : ℕ) (xs : List ℕ) → v ≢ me → IsIn xs v → IsIn (without me xs) v
in_without me v xs differs there =
    let passes : not (v == me) ≡ true = grind (arith, nat_tests) in
    in_filter (λ w. not (w == me)) xs v passes there

-- a list that does not have it loses nothing
pub without-apart : (me : ℕ) (xs : List ℕ) → ((v : ℕ) → IsIn xs v → v ≢ me) → without me xs ≡ xs
without-apart me [] apart = refl
without-apart me (x ∷ xs) apart =
    let differs : x ≢ me = apart x (in_first x xs) in
    let test : (x == me) ≡ false = grind (arith, nat_tests) in
    rw test (ap (λ (l : List ℕ). x ∷ l) (without-apart me xs (λ v there. apart v (in_rest x xs v there))))

-- if it is only at the end, all before it stay
pub without-last : (me : ℕ) (xs : List ℕ) → ((v : ℕ) → IsIn xs v → v ≢ me) → without me (xs ++ me ∷ []) ≡ xs
without-last me xs apart =
    let own : (me == me) ≡ true = grind (arith, nat_tests) in
    without-append me xs (me ∷ []) ∙ rw (own, without-apart me xs apart, append-nil) refl

-- if it is only at the end, the part before it is all the others
pub before-last : (me : ℕ) (before after xs : List ℕ) → ((v : ℕ) → IsIn xs v → v ≢ me) → before ++ me ∷ after ≡ xs ++ me ∷ [] → before ≡ xs
before-last me [] after [] apart whole = refl
before-last me [] after (x ∷ xs) apart whole = let same : x ≡ me = cc in absurd (apart x (in_first x xs) same)
before-last me (b ∷ bs) after [] apart whole =
    let none : bs ++ me ∷ after ≡ [] = cc in
    absurd (omega (arith, ap length none, length-append bs (me ∷ after)))
before-last me (b ∷ bs) after (x ∷ xs) apart whole =
    let others : bs ++ me ∷ after ≡ xs ++ me ∷ [] = cc in
    let same = before-last me bs after xs (λ v there. apart v (in_rest x xs v there)) others in
    cc
