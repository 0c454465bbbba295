-- Reading a ring to the left, one identity after the other, and keeping the records.
use Rattle.std.proofs.Common.{◌≡◌, ◌+◌, ◌<◌, ◌&&◌, ℕ, Bool, true, false, cond, List, [], ◌∷◌, ◌++◌, length, take, drop, get_or, Some, slice_get, nat_lt, refl, sym, ap, ◌∙◌, append_assoc, arith}
use Rattle.std.specs.List.{list_all}
use Rattle.std.proofs.lemmas.Bool.Decides.{nat_tests}
use Rattle.std.proofs.lemmas.List.{drop_more, take_more}
use Rattle.ring_id.specs.declared.side.Side.TheVariants.{Left}
use Rattle.ring_roster.specs.Ring.{left_of, leftward}
use Rattle.ring_election.proofs.Rings.{behind, leftward-here, leftward-left_of, length-leftward, neighbour-below}
use Rattle.ring_chang.specs.Chang.{records, records_above}

-- whether an identity is greater than all of these
abbrev pub exceeds_all : ℕ → List ℕ → Bool
exceeds_all node earlier = list_all (λ x. nat_lt x node) earlier

-- a first element may come before both branches, under a test that the other one includes
kept_first : (a b c : Bool) (x : ℕ) (more same : List ℕ) → (b ≡ true → a ≡ true) → x ∷ cond (b && c) more same ≡ cond (a && (b && c)) (x ∷ more) (x ∷ same)
kept_first a b c x more same follows = grind arith

-- one more identity adds a record above m if it exceeds m and all records above m
records_above-more : (m : ℕ) (xs : List ℕ) (y : ℕ) → records_above m (xs ++ y ∷ []) ≡ cond (nat_lt m y && exceeds_all y (records_above m xs)) (records_above m xs ++ y ∷ []) (records_above m xs)
records_above-more m [] y = elim (nat_lt m y) as (λ b. cond b (y ∷ []) [] ≡ cond (b && true) (y ∷ []) []) [ true ↦ refl | false ↦ refl ]
records_above-more m (x ∷ xs) y =
    elim (nat_lt m x) as (λ b. nat_lt m x ≡ b → cond b (x ∷ records_above x (xs ++ y ∷ [])) (records_above m (xs ++ y ∷ []))
    ≡ cond (nat_lt m y && exceeds_all y (cond b (x ∷ records_above x xs) (records_above m xs))) (cond b (x ∷ records_above x xs) (records_above m xs) ++ y ∷ []) (cond b (x ∷ records_above x xs) (records_above m xs))) [
      | true ↦ λ e. rw (records_above-more x xs y) (kept_first (nat_lt m y) (nat_lt x y) (exceeds_all y (records_above x xs)) x (records_above x xs ++ y ∷ []) (records_above x xs) (λ t. grind (arith, nat_tests)))
      | false ↦ λ e. records_above-more m xs y
    ]
    refl

-- one more identity adds a record if it exceeds all records
records-more : (xs : List ℕ) (y : ℕ) → records (xs ++ y ∷ []) ≡ cond (exceeds_all y (records xs)) (records xs ++ y ∷ []) (records xs)
records-more [] y = refl
records-more (x ∷ xs) y = rw (records_above-more x xs y) (kept_first true (nat_lt x y) (exceeds_all y (records_above x xs)) x (records_above x xs ++ y ∷ []) (records_above x xs) (λ t. refl))

-- After k identities were read from a position on: the next is read at `at`, and the records of
-- those that were read are kept.
pub record IsRead (ring : List ℕ) (position at k : ℕ) (kept : List ℕ) : Type 0 where
  pub inside : at < length ring
  pub turned : leftward ring at ≡ drop k (leftward ring position) ++ take k (leftward ring position)
  pub records_kept : kept ≡ records (take k (leftward ring position))

-- one more was read
pub one_read : (ring : List ℕ) (position at k : ℕ) (kept later : List ℕ) (node : ℕ) → IsRead ring position at k kept → k < length ring → slice_get ring at ≡ Some node
    → later ≡ cond (exceeds_all node kept) (kept ++ node ∷ []) kept
    → IsRead ring position (left_of (length ring) at) (k + 1) later
one_read ring position at k kept later node read more here grows =
    let whole = leftward ring position in
    let within : k < length whole = rw (length-leftward ring position) more in
    let whole_turned : node ∷ behind ring at ≡ (get_or whole k 0 ∷ drop (k + 1) whole) ++ take k whole =
    sym (leftward-here ring at node here) ∙ (read.turned ∙ ap (λ (l : List ℕ). l ++ take k whole) (drop_more whole k 0 within)) in
    let same : node ≡ get_or whole k 0 = cc in
    let others : behind ring at ≡ drop (k + 1) whole ++ take k whole = cc in
    let longer : take (k + 1) whole ≡ take k whole ++ node ∷ [] = take_more whole k 0 within ∙ ap (λ z. take k whole ++ z ∷ []) (sym same) in
    record {
      inside = neighbour-below (length ring) at Left read.inside;
      turned = leftward-left_of ring at node here ∙ (ap (λ (l : List ℕ). l ++ node ∷ []) others ∙ (append_assoc (drop (k + 1) whole) (take k whole) (node ∷ []) ∙ ap (λ (l : List ℕ). drop (k + 1) whole ++ l) (sym longer)));
      records_kept = grows ∙ (ap (λ (l : List ℕ). cond (exceeds_all node l) (l ++ node ∷ []) l) read.records_kept ∙ (sym (records-more (take k whole) node) ∙ ap records (sym longer)));
    }
