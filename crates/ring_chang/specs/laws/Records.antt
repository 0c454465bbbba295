-- Facts about records of a list. Those above a number are a filter of all, the last one exceeds all
-- that was read, and there are no more records than elements.
use Rattle.std.proofs.Common.{◌≡◌, ◌≢◌, ◌<◌, ◌≤◌, ℕ, suc, true, false, if◌then◌else◌, max, List, [], ◌∷◌, ◌++◌, length, nat_lt, refl, ap, arith, filter, ◌⊎◌, inl, inr}
use Rattle.std.proofs.lemmas.Bool.Decides.{nat_tests}
use Rattle.ring_election.proofs.Members.{IsIn, in_cons_cases, in_first, in_rest}
use Rattle.ring_chang.specs.Chang.{records, records_above}

-- of the records above x, those that exceed m are the records above the greater of both
filter-records_above : (m x : ℕ) (xs : List ℕ) → filter (nat_lt m) (records_above x xs) ≡ records_above (max m x) xs
filter-records_above m x [] = refl
filter-records_above m x (y ∷ ys) = grind (arith, nat_tests, filter-records_above m x ys, filter-records_above m y ys)

-- the records above m are those records that exceed m
pub records_above-filter : (m : ℕ) (xs : List ℕ) → records_above m xs ≡ filter (nat_lt m) (records xs)
records_above-filter m [] = refl
records_above-filter m (x ∷ xs) = grind (arith, nat_tests, filter-records_above m x xs)

-- an identity that does not exceed m adds no record above m at the end
pub records_above-push : (m : ℕ) (xs : List ℕ) (y : ℕ) → y ≤ m → records_above m (xs ++ y ∷ []) ≡ records_above m xs
records_above-push m [] y h = grind (arith, nat_tests)
records_above-push m (x ∷ xs) y h =
    let here = records_above-push m xs y h in
    elim (nat_lt m x) as (λ b. nat_lt m x ≡ b → (if b then x ∷ records_above x (xs ++ y ∷ []) else records_above m (xs ++ y ∷ [])) ≡ if b then x ∷ records_above x xs else records_above m xs)
    [ true ↦ λ e. ap (λ l. x ∷ l) (records_above-push x xs y (grind (arith, nat_tests))) | false ↦ λ e. here ]
    refl

-- a record above m is the first identity that exceeds m, or a record of the later ones
record_cases : (m x : ℕ) (xs : List ℕ) (v : ℕ) → IsIn (records_above m (x ∷ xs)) v → ((m < x) × IsIn (x ∷ records_above x xs) v) ⊎ ((x ≤ m) × IsIn (records_above m xs) v)
record_cases m x xs v =
    elim (nat_lt m x) as (λ b. nat_lt m x ≡ b → IsIn (if b then x ∷ records_above x xs else records_above m xs) v → ((m < x) × IsIn (x ∷ records_above x xs) v) ⊎ ((x ≤ m) × IsIn (records_above m xs) v))
    [ true ↦ λ e h. inl (grind (arith, nat_tests), h) | false ↦ λ e h. inr (grind (arith, nat_tests), h) ]
    refl

-- a record above m exceeds m
record_exceeds : (m : ℕ) (xs : List ℕ) (v : ℕ) → IsIn (records_above m xs) v → m < v
record_exceeds m [] v h = let h0 = h.there in cc
record_exceeds m (x ∷ xs) v h =
    elim (record_cases m x xs v h) [
      | inl c ↦ elim (in_cons_cases x (records_above x xs) v c.1) [ inl e ↦ let l = c.0 in omega arith | inr r ↦ let l = c.0 in let more = record_exceeds x xs v r in omega arith ]
      | inr c ↦ record_exceeds m xs v c.1
    ]

-- a record that is only at the end exceeds all before it
last_record_above : (m y : ℕ) (xs : List ℕ) → IsIn (records_above m (xs ++ y ∷ [])) y → ((w : ℕ) → IsIn xs w → w ≢ y) → (w : ℕ) → IsIn xs w → w < y
last_record_above m y [] h apart w in_nil = let h0 = in_nil.there in cc
last_record_above m y (x ∷ xs) h apart w in_xs =
    elim (record_cases m x (xs ++ y ∷ []) y h) [
      | inl c ↦ elim (in_cons_cases x (records_above x (xs ++ y ∷ [])) y c.1) [
        | inl e ↦ absurd (apart x (in_first x xs) e)
        | inr r ↦ elim (in_cons_cases x xs w in_xs) [
          | inl e ↦ let more = record_exceeds x (xs ++ y ∷ []) y r in omega arith
          | inr rest ↦ last_record_above x y xs r (λ v k. apart v (in_rest x xs v k)) w rest
        ]
      ]
      | inr c ↦ elim (in_cons_cases x xs w in_xs) [
        | inl e ↦ let l = c.0 in let more = record_exceeds m (xs ++ y ∷ []) y c.1 in omega arith
        | inr rest ↦ last_record_above m y xs c.1 (λ v k. apart v (in_rest x xs v k)) w rest
      ]
    ]

-- an identity that is a record and is only at the end exceeds all others
pub last_record : (y : ℕ) (xs : List ℕ) → IsIn (records (xs ++ y ∷ [])) y → ((w : ℕ) → IsIn xs w → w ≢ y) → (w : ℕ) → IsIn xs w → w < y
last_record y [] h apart w in_nil = let h0 = in_nil.there in cc
last_record y (x ∷ xs) h apart w in_xs =
    elim (in_cons_cases x (records_above x (xs ++ y ∷ [])) y h) [
      | inl e ↦ absurd (apart x (in_first x xs) e)
      | inr r ↦ elim (in_cons_cases x xs w in_xs) [
        | inl e ↦ let more = record_exceeds x (xs ++ y ∷ []) y r in omega arith
        | inr rest ↦ last_record_above x y xs r (λ v k. apart v (in_rest x xs v k)) w rest
      ]
    ]

length-records_above : (m : ℕ) (xs : List ℕ) → length (records_above m xs) ≤ length xs
length-records_above m [] = omega arith
length-records_above m (x ∷ xs) =
    let passed = length-records_above m xs in
    let taken = length-records_above x xs in
    elim (nat_lt m x) as (λ b. length (if b then x ∷ records_above x xs else records_above m xs) ≤ suc (length xs)) [ true ↦ omega arith | false ↦ omega arith ]

-- there are no more records than identities
pub length-records : (xs : List ℕ) → length (records xs) ≤ length xs
length-records [] = omega arith
length-records (x ∷ xs) = let rest = length-records_above x xs in omega arith
