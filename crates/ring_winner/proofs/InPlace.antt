-- The next round in place: the entries that stay are written over entries that were read.
use Rattle.std.proofs.Common.{◌≡◌, ◌+◌, ◌-◌, ◌<◌, ◌≤◌, ℕ, zero, suc, Bool, true, false, cond, [], ◌∷◌, ◌++◌, length, take, drop, set, get_or, refl, sym, ap, ap₂, ◌∙◌, append_assoc, arith}
use Rattle.std.proofs.lemmas.List.{append-nil, drop_all, drop_more, drop-set-lt, length-set, take_more_set}
use Rattle.ring_peterson.specs.Rounds.{Round, Two, stays_active, two_of}
use Rattle.ring_peterson.specs.laws.Walk.{kept, two_after, two_ends, walk_next}

-- Of a round of `size` entries, `written` are written and `k` are read, and these two values were
-- met last. The next round is the written entries and those of the rest that stay.
pub record IsInPlace (next : Round) (size written k : ℕ) (two : Two) (round : Round) : Type 0 where
  pub same_size : length round ≡ size
  pub behind : written ≤ k
  pub walked : take written round ++ kept two (drop k round) ≡ next

-- a walk over n + 2 entries meets the last two values last
two_after_last : (n : ℕ) (two : Two) (round : Round) (e f : ℕ × ℕ) → length round ≡ suc (suc n) → e ≡ get_or round n e → f ≡ get_or round (suc n) f → two_of e.1 f.1 ≡ two_after two round
two_after_last n two [] e f size before last = absurd (omega arith)
two_after_last zero two (a ∷ []) e f size before last = absurd (omega arith)
two_after_last zero two (a ∷ (b ∷ [])) e f size before last = ap₂ (λ (x y : ℕ × ℕ). two_of x.1 y.1) before last
two_after_last zero two (a ∷ (b ∷ (c ∷ round))) e f size before last = absurd (omega arith)
two_after_last (suc n) two (a ∷ round) e f size before last = two_after_last n (two_of two.last a.1) round e f (omega arith) before last

-- the last two values are those to the left of the first entry
two_ends_last : (n : ℕ) (round : Round) (e f : ℕ × ℕ) → length round ≡ suc (suc n) → e ≡ get_or round n e → f ≡ get_or round (suc n) f → two_of e.1 f.1 ≡ two_ends round
two_ends_last n [] e f size before last = absurd (omega arith)
two_ends_last n (a ∷ round) e f size before last = two_after_last n (two_of a.1 a.1) (a ∷ round) e f size before last

-- before the first entry
pub IsInPlace-first : (round : Round) (e f : ℕ × ℕ) → 2 ≤ length round → e ≡ get_or round (length round - 2) e → f ≡ get_or round (length round - 1) f
    → IsInPlace (walk_next round) (length round) 0 0 (two_of e.1 f.1) round
IsInPlace-first round e f le before last =
    let size : length round ≡ suc (suc (length round - 2)) = omega arith in
    let last_place : length round - 1 ≡ suc (length round - 2) = omega arith in
    let ends = two_ends_last (length round - 2) round e f size before (last ∙ ap (λ place. get_or round place f) last_place) in
    record { same_size = refl; behind = omega arith; walked = ap (λ (two : Two). kept two round) ends }

-- the entry that is read next stays with its predecessor's value, or leaves
kept_read : (two : Two) (k : ℕ) (round : Round) (e : ℕ × ℕ) → k < length round → e ≡ get_or round k e →
    kept two (drop k round) ≡ cond (stays_active e.1 two) ((e.0, two.last) ∷ kept (two_of two.last e.1) (drop (k + 1) round)) (kept (two_of two.last e.1) (drop (k + 1) round))
kept_read two k round e within is = ap (kept two) (drop_more round k e within ∙ ap (λ (x : ℕ × ℕ). x ∷ drop (k + 1) round) (sym is))

-- after one more that stays
pub IsInPlace-stays : (next : Round) (size written k : ℕ) (two : Two) (round : Round) (e : ℕ × ℕ) → k < size → e ≡ get_or round k e → stays_active e.1 two ≡ true
    → IsInPlace next size written k two round → IsInPlace next size (written + 1) (k + 1) (two_of two.last e.1) (set round written (e.0, two.last))
IsInPlace-stays next size written k two round e more is stays h =
    let same = h.same_size in
    let behind = h.behind in
    let within : k < length round = omega arith in
    let entry : ℕ × ℕ = (e.0, two.last) in
    let rest = kept (two_of two.last e.1) (drop (k + 1) round) in
    let read = kept_read two k round e within is ∙ ap (λ (b : Bool). cond b (entry ∷ rest) rest) stays in
    let front = take_more_set round written entry (omega arith) in
    let back = ap (kept (two_of two.last e.1)) (drop-set-lt (k + 1) round written entry (omega arith)) in
    record {
      same_size = length-set round written entry ∙ same;
      behind = omega arith;
      walked = ap₂ (λ (a b : Round). a ++ b) front back ∙ (append_assoc (take written round) (entry ∷ []) rest ∙ (ap (λ (l : Round). take written round ++ l) (sym read) ∙ h.walked));
    }

-- after one more that leaves
pub IsInPlace-leaves : (next : Round) (size written k : ℕ) (two : Two) (round : Round) (e : ℕ × ℕ) → k < size → e ≡ get_or round k e → stays_active e.1 two ≡ false
    → IsInPlace next size written k two round → IsInPlace next size written (k + 1) (two_of two.last e.1) round
IsInPlace-leaves next size written k two round e more is leaves h =
    let same = h.same_size in
    let behind = h.behind in
    let within : k < length round = omega arith in
    let rest = kept (two_of two.last e.1) (drop (k + 1) round) in
    let read = kept_read two k round e within is ∙ ap (λ (b : Bool). cond b ((e.0, two.last) ∷ rest) rest) leaves in
    record {
      same_size = same;
      behind = omega arith;
      walked = ap (λ (l : Round). take written round ++ l) (sym read) ∙ h.walked;
    }

-- after the last
pub in_place_done : (next : Round) (size written k : ℕ) (two : Two) (round : Round) → size ≤ k → IsInPlace next size written k two round → take written round ≡ next
in_place_done next size written k two round past h =
    let same = h.same_size in
    let none = drop_all k round (omega arith) in
    sym (append-nil (take written round)) ∙ (ap (λ (l : Round). take written round ++ kept two l) (sym none) ∙ h.walked)
