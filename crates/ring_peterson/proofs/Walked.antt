-- Rounds in code: walks over the entries, one entry after the other.
use Rattle.std.proofs.Common.{◌≡◌, ◌+◌, ◌-◌, ◌<◌, ◌≤◌, ℕ, zero, suc, true, false, cond, List, [], ◌∷◌, ◌++◌, length, drop, get_or, Some, slice_get, refl, sym, ap, ◌∙◌, append_assoc, arith}
use Rattle.std.proofs.lemmas.List.{append-nil, drop_all, drop_more}
use Rattle.std.proofs.lemmas.Option.{get_or_from_slice_get, slice_get_within}
use Rattle.ring_peterson.specs.Rounds.{Round, Two, first_round, next_round, numbered, rounds, stays_active, two_of}
use Rattle.ring_peterson.specs.laws.Walk.{kept, two_after, two_ends, walk_next}
use Rattle.ring_peterson.specs.laws.Positions.{Rises, Rises-kept}
use Rattle.ring_peterson.specs.laws.FirstRound.{numbered_rises}
use Rattle.ring_peterson.specs.laws.Reading.{next_round-walk}

-- what is left of a list begins with the element read next
drop_read : {X : Type 0} (xs : List X) (k : ℕ) (x : X) → k < length xs → x ≡ get_or xs k x → drop k xs ≡ x ∷ drop (k + 1) xs
drop_read xs k x within is = drop_more xs k x within ∙ ap (λ y. y ∷ drop (k + 1) xs) (sym is)

-- the walk over a whole round begins with the first value twice
pub two_ends_from_first : (round : Round) (e : ℕ × ℕ) → slice_get round 0 ≡ Some e → two_after (two_of e.1 e.1) round ≡ two_ends round
two_ends_from_first [] e h = absurd (cc)
two_ends_from_first (f ∷ round) e h = let same : e ≡ f = cc in ap (λ (x : ℕ × ℕ). two_after (two_of x.1 x.1) (f ∷ round)) same

-- one entry more of a walk to the end
pub two_after_one_more : (round : Round) (two end : Two) (k : ℕ) (e : ℕ × ℕ) → k < length round → e ≡ get_or round k e
    → two_after two (drop k round) ≡ end → two_after (two_of two.last e.1) (drop (k + 1) round) ≡ end
two_after_one_more round two end k e within is walked = ap (two_after two) (sym (drop_read round k e within is)) ∙ walked

-- one entry more of a walk that keeps those that stay
pub kept_one_more : (round all : Round) (two : Two) (k : ℕ) (e : ℕ × ℕ) (done later : Round) → k < length round → e ≡ get_or round k e
    → later ≡ cond (stays_active e.1 two) (done ++ (e.0, two.last) ∷ []) done
    → done ++ kept two (drop k round) ≡ all → later ++ kept (two_of two.last e.1) (drop (k + 1) round) ≡ all
kept_one_more round all two k e done later within is grows walked =
    let rest = kept (two_of two.last e.1) (drop (k + 1) round) in
    elim (stays_active e.1 two) as (λ b. later ≡ cond b (done ++ (e.0, two.last) ∷ []) done → done ++ cond b ((e.0, two.last) ∷ rest) rest ≡ all → later ++ rest ≡ all) [
      | true ↦ λ more at. ap (λ (l : Round). l ++ rest) more ∙ (append_assoc done ((e.0, two.last) ∷ []) rest ∙ at)
      | false ↦ λ same at. ap (λ (l : Round). l ++ rest) same ∙ at
    ]
    grows
    (ap (λ (l : Round). done ++ kept two l) (sym (drop_read round k e within is)) ∙ walked)

-- one position more of the first round
pub numbered_one_more : (ring : List ℕ) (all : Round) (k node : ℕ) (done later : Round) → slice_get ring k ≡ Some node
    → later ≡ done ++ (k, node) ∷ []
    → done ++ numbered k (drop k ring) ≡ all → later ++ numbered (k + 1) (drop (k + 1) ring) ≡ all
numbered_one_more ring all k node done later here grows numbers =
    let rest = numbered (k + 1) (drop (k + 1) ring) in
    let cut = drop_read ring k node (slice_get_within ring k node here) (sym (get_or_from_slice_get ring k node node here)) in
    ap (λ (l : Round). l ++ rest) grows
    ∙ (append_assoc done ((k, node) ∷ []) rest ∙ (ap (λ (l : List ℕ). done ++ numbered k l) (sym cut) ∙ numbers))

-- after all of a list nothing is left to add
pub nothing_left : {X : Type 0} (F : List X → Round) (xs : List X) (k : ℕ) (done all : Round) → F [] ≡ [] → length xs ≤ k → done ++ F (drop k xs) ≡ all → done ≡ all
nothing_left F xs k done all none past walked =
    sym (append-nil done) ∙ (ap (λ (l : Round). done ++ l) (sym none) ∙ (ap (λ l. done ++ F l) (sym (drop_all k xs past)) ∙ walked))

-- After k rounds of `number`, the rounds that are left lead from this one to the result.
pub record IsUnderWay (ring : List ℕ) (number k : ℕ) (round : Round) : Type 0 where
  pub rises : Rises 0 (length ring) round
  pub ahead : rounds (number - k) round ≡ rounds number (first_round ring)

-- so it is before the first
pub IsUnderWay-first : (ring : List ℕ) (number : ℕ) (round : Round) → round ≡ first_round ring → IsUnderWay ring number 0 round
IsUnderWay-first ring number round is =
    let whole : number - 0 ≡ number = omega arith in
    rw is (record { rises = numbered_rises 0 (length ring) ring (omega arith); ahead = ap (λ m. rounds m (first_round ring)) whole })

-- and after one more
pub IsUnderWay-next : (ring : List ℕ) (number k : ℕ) (round later : Round) → k < number → later ≡ walk_next round → IsUnderWay ring number k round → IsUnderWay ring number (k + 1) later
IsUnderWay-next ring number k round later more is h =
    let left : number - k ≡ suc (number - (k + 1)) = omega arith in
    let next : next_round round ≡ walk_next round = next_round-walk (length ring) round h.rises in
    rw is (record {
      rises = Rises-kept (two_ends round) 0 (length ring) round h.rises;
      ahead = ap (rounds (number - (k + 1))) (sym next) ∙ (ap (λ m. rounds m round) (sym left) ∙ h.ahead);
    })

-- after the last round nothing is left
rounds_of_none : (k : ℕ) → rounds k [] ≡ []
rounds_of_none zero = refl
rounds_of_none (suc k) = rounds_of_none k

-- all rounds were done
pub under_way_done : (ring : List ℕ) (number k : ℕ) (round : Round) → number ≤ k → IsUnderWay ring number k round → round ≡ rounds number (first_round ring)
under_way_done ring number k round all h = let none : number - k ≡ 0 = omega arith in ap (λ m. rounds m round) (sym none) ∙ h.ahead

-- or none is left
pub under_way_past : (ring : List ℕ) (number k : ℕ) (round : Round) → round ≡ [] → IsUnderWay ring number k round → round ≡ rounds number (first_round ring)
under_way_past ring number k round none h = none ∙ (sym (rounds_of_none (number - k)) ∙ (ap (rounds (number - k)) (sym none) ∙ h.ahead))
