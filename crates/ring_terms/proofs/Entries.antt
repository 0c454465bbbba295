-- Entries of a map whose values are seen through a function: what a look-up finds, and what a write
-- and an insert change.
use Rattle.std.proofs.Common.{inl, inr, ◌≡◌, ◌<◌, ℕ, zero, suc, nat_lt, length, get_or, position, is_some, arith, Bool, true, false, cond, List, [], ◌∷◌, ◌++◌, map, Option, None, Some, refl, sym, ◌∙◌, ap, true≢false}
use Rattle.std.specs.Prelude.{◌⊎◌, slice_get}
use Rattle.std.specs.Map.{keys_of, lookup, set_value}
use Rattle.std.specs.Option.{option_map}
use Rattle.std.specs.Cmp.{IsEquivalence}
use Rattle.std.specs.List.{position_or_len, IsDistinct}
use Rattle.std.proofs.lemmas.Bool.Decides.{nat_tests}
use Rattle.std.proofs.lemmas.List.Quantifiers.{position-Some}
use Rattle.std.proofs.lemmas.List.Sums.{position_or_len_is}
use Rattle.std.proofs.lemmas.Map.Keys.{apart_from_distinct}
use Rattle.std.proofs.lemmas.Option.{get_or_from_slice_get, none-some, same_Some, slice_get_within, some_pair_parts}
use Rattle.indexmap.specs.IndexMap.{set_value_at}

module _ {K X Y : Type 0} (f : X → Y) where
  -- the keys are seen as they are
  pub keys-map : (es : List (K × X)) → keys_of (map (λ (e : K × X). (e.0, f e.1)) es) ≡ keys_of es
  keys-map [] = refl
  keys-map (e ∷ es) = ap (λ (ks : List K). e.0 ∷ ks) (keys-map es)

  -- the view of an element at a place is the view there
  pub slice_get-seen : (es : List (K × X)) (i : ℕ) (k : K) (y : Y) → slice_get {X = K × Y} (map (λ (e : K × X). (e.0, f e.1)) es) i ≡ Some (k, y) → slice_get (keys_of es) i ≡ Some k
  slice_get-seen [] i k y h = absurd (none-some (k, y) h)
  slice_get-seen (e ∷ es) zero k y h = ap Some (some_pair_parts e.0 k (f e.1) y h).0
  slice_get-seen (e ∷ es) (suc i) k y h = slice_get-seen es i k y h

module _ {K X Y : Type 0} (test : K → Bool) (f : X → Y) where
  -- a look-up among what is seen finds what is seen of the one found
  pub lookup-map : (es : List (K × X)) → lookup test (map (λ (e : K × X). (e.0, f e.1)) es) ≡ option_map f (lookup test es)
  lookup-map [] = refl
  lookup-map (e ∷ es) =
      elim (test e.0) as (λ b. cond b (Some (f e.1)) (lookup test (map (λ (e : K × X). (e.0, f e.1)) es)) ≡ option_map f (cond b (Some e.1) (lookup test es))) [ true ↦ refl | false ↦ lookup-map es ]

  -- a write is seen as a write of what is seen
  pub set_value-map : (es : List (K × X)) (w : X) → set_value test (map (λ (e : K × X). (e.0, f e.1)) es) (f w) ≡ map (λ (e : K × X). (e.0, f e.1)) (set_value test es w)
  set_value-map [] w = refl
  set_value-map (e ∷ es) w =
      elim (test e.0) as (λ b. cond b ((e.0, f w) ∷ map (λ (e : K × X). (e.0, f e.1)) es) ((e.0, f e.1) ∷ set_value test (map (λ (e : K × X). (e.0, f e.1)) es) (f w)) ≡ map (λ (e : K × X). (e.0, f e.1)) (cond b ((e.0, w) ∷ es) (e ∷ set_value test es w))) [
        | true ↦ refl
        | false ↦ ap (λ (rest : List (K × Y)). (e.0, f e.1) ∷ rest) (set_value-map es w)
      ]

-- a value that was mapped comes from one
pub option_map-some : {X Y : Type 0} (f : X → Y) (o : Option X) (y : Y) → option_map f o ≡ Some y → (x : X) × (o ≡ Some x) × (f x ≡ y)
option_map-some f None y h = absurd (none-some y h)
option_map-some f (Some x) y h = (x, refl, same_Some (f x) y h)

-- whether there is one stays
pub is_some-map : {X Y : Type 0} (f : X → Y) (o : Option X) → is_some (option_map f o) ≡ is_some o
is_some-map f None = refl
is_some-map f (Some x) = refl

-- if there is none it is none
pub none_there : {X : Type 0} (o : Option X) → is_some o ≡ false → o ≡ None
none_there None h = refl
none_there (Some x) h = absurd (true≢false h)

-- among keys that differ, each is first at its place
pub position-apart : {K : Type 0} (eq : K → K → Bool) → IsEquivalence eq → (ks : List K) (i : ℕ) (k : K) → IsDistinct eq ks → slice_get ks i ≡ Some k → position (eq k) ks ≡ Some i
position-apart eq laws ks i k apart at =
    let within = slice_get_within ks i k at in
    let here : get_or ks i k ≡ k = get_or_from_slice_get ks i k k at in
    let others : (j : ℕ) → j < i → eq k (get_or ks j k) ≡ false = λ j below. laws.symm k (get_or ks j k) ∙ ap (eq (get_or ks j k)) (sym here) ∙ apart_from_distinct eq ks j i k apart below within in
    let first : position_or_len (eq k) ks ≡ i = position_or_len_is (eq k) ks i k (omega arith) others (λ _. ap (eq k) here ∙ laws.refl k) in
    let inside : nat_lt i (length ks) ≡ true = grind (arith, nat_tests) in
    ap (λ n. cond (nat_lt n (length ks)) (Some n) None) first ∙ ap (λ b. cond b (Some i) None) inside

module _ {K X : Type 0} (test : K → Bool) where
  -- what a look-up finds after an entry was added last: what it found before, or that entry
  pub lookup-push : (es : List (K × X)) (k : K) (v w : X) → lookup test (es ++ (k, v) ∷ []) ≡ Some w → (lookup test es ≡ Some w) ⊎ ((test k ≡ true) × (v ≡ w))
  lookup-push [] k v w =
      elim (test k) as (λ b. cond b (Some v) None ≡ Some w → (None ≡ Some w) ⊎ ((b ≡ true) × (v ≡ w))) [ true ↦ λ h. inr (refl, same_Some v w h) | false ↦ λ h. inl h ]
  lookup-push (e ∷ es) k v w =
      elim (test e.0) as (λ b. cond b (Some e.1) (lookup test (es ++ (k, v) ∷ [])) ≡ Some w → (cond b (Some e.1) (lookup test es) ≡ Some w) ⊎ ((test k ≡ true) × (v ≡ w))) [
        | true ↦ λ h. inl h
        | false ↦ λ h. lookup-push es k v w h
      ]

  -- a write at the place of the first key that passes is a write of its value
  set_value-first : (d : K) (es : List (K × X)) (i : ℕ) (w : X) → i < length (keys_of es) → test (get_or (keys_of es) i d) ≡ true → ((k : ℕ) → k < i → test (get_or (keys_of es) k d) ≡ false) →
      set_value_at es i w ≡ set_value test es w
  set_value-first d [] i w inside here before = refl
  set_value-first d (e ∷ es) zero w inside here before = rw here refl
  set_value-first d (e ∷ es) (suc i) w inside here before =
      let first : test e.0 ≡ false = before 0 (omega arith) in
      rw first (ap (λ (rest : List (K × X)). e ∷ rest) (set_value-first d es i w (omega (arith, inside)) here (λ k below. before (suc k) (omega (arith, below)))))

  pub set_value-placed : (d : K) (es : List (K × X)) (place : ℕ) (w : X) → position test (keys_of es) ≡ Some place → set_value_at es place w ≡ set_value test es w
  set_value-placed d es place w placed =
      let first = position-Some test (keys_of es) place d placed in
      set_value-first d es place w first.0 first.1 first.2
