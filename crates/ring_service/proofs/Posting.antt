-- Posting: the begins that wait are tried in order, one at a time, and those of terms are added.
use Rattle.std.proofs.Common.{◌≡◌, ◌+◌, ◌<◌, ◌≤◌, ℕ, zero, suc, List, [], ◌∷◌, ◌++◌, Some, length, slice_get, map, set, refl, sym, ap, ◌∙◌, subst, inl, inr, append_assoc, append-nil, eq-eqb, arith}
use Rattle.std.specs.Global.{Global}
use Rattle.std.specs.Prelude.{All}
use Rattle.std.specs.declared.sync.Arc.{Arc}
use Rattle.std.proofs.lemmas.List.{length-append, length-set, map_push}
use Rattle.std.proofs.lemmas.List.FromFn.{map-range_with_len_more}
use Rattle.std.proofs.lemmas.Bool.{cases_eq, ne_eqb}
use Rattle.ring_any.specs.declared.any.Any.{Any}
use Rattle.ring_inbox.specs.Values.{SenderLog}
use Rattle.ring_node.specs.declared.charter.Charter.{Charter}
use Rattle.ring_service.specs.private.Telling.{TellsAll}
use Rattle.ring_service.specs.private.PendingBegins.{MakeUp, StoresBegins, Tries, begins_to, says, term_begins}
use Rattle.ring_service.specs.declared.pending.Waiting.{Waiting}
use Rattle.ring_workers.specs.declared.item.Item.{Item}
use Rattle.ring_workers.specs.declared.item.Item.TheVariants.{Begin}

-- one more at the end of the whole and of the first part
make_up_some : {A : Type 0} (xs some others : List A) (x : A) → MakeUp xs some others → MakeUp (xs ++ x ∷ []) (some ++ x ∷ []) others
make_up_some [] some others x m = inl ([], rw m.0 refl, (refl, m.1))
make_up_some (y ∷ ys) some others x (inl m) = inl (m.0 ++ x ∷ [], rw m.1 refl, make_up_some ys m.0 others x m.2)
make_up_some (y ∷ ys) some others x (inr m) = inr (m.0, m.1, make_up_some ys some m.0 x m.2)

-- one more at the end of the whole and of the other part
make_up_others : {A : Type 0} (xs some others : List A) (x : A) → MakeUp xs some others → MakeUp (xs ++ x ∷ []) some (others ++ x ∷ [])
make_up_others [] some others x m = inr ([], rw m.1 refl, (m.0, refl))
make_up_others (y ∷ ys) some others x (inl m) = inl (m.0, m.1, make_up_others ys m.0 others x m.2)
make_up_others (y ∷ ys) some others x (inr m) = inr (m.0 ++ x ∷ [], rw m.1 refl, make_up_others ys some m.0 x m.2)

-- a list is made up of nothing and itself
make_up_none : (waiting : List Waiting) → MakeUp waiting [] waiting
make_up_none [] = (refl, refl)
make_up_none (b ∷ waiting) = inr (waiting, refl, make_up_none waiting)

-- the element at a place after a write there
get-set_same : {A : Type 0} (xs : List A) (place : ℕ) (x y : A) → slice_get xs place ≡ Some x → slice_get (set xs place y) place ≡ Some y
get-set_same [] place x y e = cc
get-set_same (z ∷ xs) zero x y e = refl
get-set_same (z ∷ xs) (suc place) x y e = get-set_same xs place x y e

-- the element at another place
get-set_other : {A : Type 0} (xs : List A) (place : ℕ) (y : A) (v : ℕ) → (place ≡ v → ⊥) → slice_get (set xs place y) v ≡ slice_get xs v
get-set_other [] place y v differ = refl
get-set_other (z ∷ xs) zero y zero differ = absurd (differ refl)
get-set_other (z ∷ xs) zero y (suc v) differ = refl
get-set_other (z ∷ xs) (suc place) y zero differ = refl
get-set_other (z ∷ xs) (suc place) y (suc v) differ = get-set_other xs place y v (λ e. differ (ap suc e))

-- a write of the element that is there changes nothing
set_own : {A : Type 0} (xs : List A) (place : ℕ) (x : A) → slice_get xs place ≡ Some x → set xs place x ≡ xs
set_own [] place x e = refl
set_own (z ∷ xs) zero x e = let same : z ≡ x = cc in ap (λ a. a ∷ xs) (sym same)
set_own (z ∷ xs) (suc place) x e = ap (λ l. z ∷ l) (set_own xs place x e)

-- while not all have been tried, the first that waits is the next, and others come after it
record IsNext (waiting tried rest kept now : List Waiting) (b : Waiting) : Type 0 where
  others : List Waiting
  next : rest ≡ b ∷ others
  behind : now ≡ others ++ kept

is_next : (waiting tried rest kept now : List Waiting) (b : Waiting) → waiting ≡ tried ++ rest → b ∷ now ≡ rest ++ kept → length tried < length waiting → IsNext waiting tried rest kept now b
is_next waiting tried [] kept now b all order fewer = absurd (omega (arith, ap length all, length-append tried []))
is_next waiting tried (r ∷ rest) kept now b all order fewer =
    let first : r ≡ b = cc in
    let behind : now ≡ rest ++ kept = cc in
    record { others = rest; next = rw first refl; behind = behind }

-- a property of all elements is one of the first
pub all_first : {A : Type 0} (P : A → Type 0) (xs after : List A) (x : A) → xs ≡ x ∷ after → All P xs → P x
all_first {A} P xs after x is all = let each : All P (x ∷ after) = subst (λ (l : List A). All P l) is all in each 0 x (omega arith)

-- a list of length 0 is empty
length-none : {A : Type 0} (xs : List A) → length xs ≡ 0 → xs ≡ []
length-none [] none = refl
length-none (x ∷ xs) none = absurd (omega arith)

-- the begins of a term for the workers so far, and one more
pub says_more : (begins : List Waiting) (before : List (ℕ × Charter Any)) (charter copy : Arc (Charter Any) Global) (worker : ℕ)
    → copy.value ≡ charter.value → map says begins ≡ before ++ term_begins worker charter
    → map says (begins ++ record { worker = worker; charter = copy } ∷ []) ≡ before ++ term_begins (worker + 1) charter
says_more begins before charter copy worker same said =
    let begin : ℕ → ℕ × Charter Any = λ number. (number, charter.value) in
    map_push says begins (record { worker = worker; charter = copy })
    ∙ ap (λ (l : List (ℕ × Charter Any)). l ++ (worker, copy.value) ∷ []) said
    ∙ append_assoc before (term_begins worker charter) ((worker, copy.value) ∷ [])
    ∙ ap (λ (c : Charter Any). before ++ (term_begins worker charter ++ (worker, c) ∷ [])) same
    ∙ ap (λ (l : List (ℕ × Charter Any)). before ++ l) (sym (map-range_with_len_more begin 0 worker worker (omega arith)))

module _ {M S : Type 0} where
  -- one more begin for its worker
  begins_to_own : (begins : List Waiting) (b : Waiting) → begins_to {M = M} {S = S} b.worker (begins ++ b ∷ []) ≡ begins_to b.worker begins ++ Begin b.charter ∷ []
  begins_to_own [] b = rw (eq-eqb b.worker b.worker refl) refl
  begins_to_own (c ∷ begins) b =
      elim (cases_eq c.worker b.worker) [
        | inl same ↦ rw (eq-eqb c.worker b.worker same) (ap (λ (l : List (Item Any M S)). Begin c.charter ∷ l) (begins_to_own begins b))
        | inr differ ↦ rw (ne_eqb c.worker b.worker differ) (begins_to_own begins b)
      ]

  -- for any other worker it adds none
  begins_to_other : (begins : List Waiting) (b : Waiting) (v : ℕ) → (b.worker ≡ v → ⊥) → begins_to {M = M} {S = S} v (begins ++ b ∷ []) ≡ begins_to v begins
  begins_to_other [] b v differ = rw (ne_eqb b.worker v differ) refl
  begins_to_other (c ∷ begins) b v differ =
      elim (cases_eq c.worker v) [
        | inl same ↦ rw (eq-eqb c.worker v same) (ap (λ (l : List (Item Any M S)). Begin c.charter ∷ l) (begins_to_other begins b v differ))
        | inr apart ↦ rw (ne_eqb c.worker v apart) (begins_to_other begins b v differ)
      ]

  -- after passes stored some begins, the pass to a worker stores one more
  stores_one : (begins : List Waiting) (b : Waiting) (old mid : List (SenderLog (Item Any M S))) (pass : SenderLog (Item Any M S))
      → StoresBegins begins old mid → slice_get mid b.worker ≡ Some pass
      → StoresBegins (begins ++ b ∷ []) old (set mid b.worker (record pass { stored = pass.stored ++ Begin b.charter ∷ [] }))
  stores_one begins b old mid pass stores there = record {
    count = length-set mid _ _ ∙ stores.count;
    each = λ v first at.
        let before : slice_get mid v ≡ Some (record first { stored = first.stored ++ begins_to v begins }) = stores.each v first at in
        elim (cases_eq b.worker v) [
          | inl same ↦
              let one : pass ≡ record first { stored = first.stored ++ begins_to b.worker begins } = let own = rw (sym same) at before in cc in
              rw (sym same)
              (get-set_same mid b.worker pass (record pass { stored = pass.stored ++ Begin b.charter ∷ [] }) there
              ∙ ap (λ (p : SenderLog (Item Any M S)). Some (record p { stored = p.stored ++ Begin b.charter ∷ [] })) one
              ∙ ap (λ (l : List (Item Any M S)). Some (record first { stored = l }))
              (append_assoc first.stored (begins_to b.worker begins) (Begin b.charter ∷ []) ∙ ap (λ (l : List (Item Any M S)). first.stored ++ l) (sym (begins_to_own begins b))))
          | inr differ ↦
              get-set_other mid b.worker (record pass { stored = pass.stored ++ Begin b.charter ∷ [] }) v differ ∙ before
              ∙ ap (λ (l : List (Item Any M S)). Some (record first { stored = first.stored ++ l })) (sym (begins_to_other begins b v differ))
        ];
  }

  -- the first begins that waited have been tried, and those that were not stored wait after the
  -- others
  pub record TriesSome (count : ℕ) (waiting now : List Waiting) (old new : List (SenderLog (Item Any M S))) : Type 0 where
    pub tried : List Waiting
    pub rest : List Waiting
    pub kept : List Waiting
    pub counted : length tried ≡ count
    pub all : waiting ≡ tried ++ rest
    pub order : now ≡ rest ++ kept
    pub tries : Tries tried kept old new

  -- none has been tried
  pub tries_none : (waiting : List Waiting) (passes : List (SenderLog (Item Any M S))) → TriesSome 0 waiting waiting passes passes
  tries_none waiting passes = record {
    tried = [];
    rest = waiting;
    kept = [];
    counted = refl;
    all = refl;
    order = sym (append-nil waiting);
    tries = record {
      stored = [];
      whole = (refl, refl);
      passes = record { count = refl; each = λ v pass there. there ∙ ap (λ (l : List (Item Any M S)). Some (record pass { stored = l })) (sym (append-nil pass.stored)) };
    };
  }

  -- nothing is added, and nothing tried
  pub tells_none : (waiting after : List Waiting) (old new : List (SenderLog (Item Any M S))) → Tries waiting after old new → TellsAll [] waiting after old new
  tells_none waiting after old new tries = record {
    mid = after;
    between = new;
    first = tries;
    last = record {
      stored = [];
      whole = subst (λ (l : List Waiting). MakeUp l [] after) (sym (append-nil after)) (make_up_none after);
      passes = record { count = refl; each = λ v pass there. there ∙ ap (λ (l : List (Item Any M S)). Some (record pass { stored = l })) (sym (append-nil pass.stored)) };
    };
  }

  -- the next begin is stored
  pub tries_stored : (count : ℕ) (waiting now after : List Waiting) (b : Waiting) (old mid : List (SenderLog (Item Any M S))) (pass new : SenderLog (Item Any M S))
      → TriesSome count waiting now old mid → now ≡ b ∷ after → count < length waiting
      → slice_get mid b.worker ≡ Some pass → new ≡ record pass { stored = pass.stored ++ Begin b.charter ∷ [] }
      → TriesSome (count + 1) waiting after old (set mid b.worker new)
  tries_stored count waiting now after b old mid pass new some front fewer there stores =
      let next = is_next waiting some.tried some.rest some.kept after b some.all (sym front ∙ some.order) (omega (arith, some.counted)) in
      record {
        tried = some.tried ++ b ∷ [];
        rest = next.others;
        kept = some.kept;
        counted = length-append some.tried (b ∷ []) ∙ ap (λ (n : ℕ). n + 1) some.counted;
        all = some.all ∙ ap (λ (l : List Waiting). some.tried ++ l) next.next ∙ sym (append_assoc some.tried (b ∷ []) next.others);
        order = next.behind;
        tries = record {
          stored = some.tries.stored ++ b ∷ [];
          whole = make_up_some some.tried some.tries.stored some.kept b some.tries.whole;
          passes = rw stores (stores_one some.tries.stored b old mid pass some.tries.passes there);
        };
      }

  -- the next begin is not stored and goes after the others
  pub tries_kept : (count : ℕ) (waiting now mid-waiting after : List Waiting) (b back : Waiting) (old mid : List (SenderLog (Item Any M S))) (pass new : SenderLog (Item Any M S))
      → TriesSome count waiting now old mid → now ≡ b ∷ mid-waiting → count < length waiting
      → slice_get mid b.worker ≡ Some pass → new ≡ pass → back ≡ b → after ≡ mid-waiting ++ back ∷ []
      → TriesSome (count + 1) waiting after old (set mid b.worker new)
  tries_kept count waiting now mid-waiting after b back old mid pass new some front fewer there stays same goes =
      let next = is_next waiting some.tried some.rest some.kept mid-waiting b some.all (sym front ∙ some.order) (omega (arith, some.counted)) in
      record {
        tried = some.tried ++ b ∷ [];
        rest = next.others;
        kept = some.kept ++ b ∷ [];
        counted = length-append some.tried (b ∷ []) ∙ ap (λ (n : ℕ). n + 1) some.counted;
        all = some.all ∙ ap (λ (l : List Waiting). some.tried ++ l) next.next ∙ sym (append_assoc some.tried (b ∷ []) next.others);
        order = goes ∙ ap (λ (w : Waiting). mid-waiting ++ w ∷ []) same ∙ ap (λ (l : List Waiting). l ++ b ∷ []) next.behind ∙ append_assoc next.others some.kept (b ∷ []);
        tries = record {
          stored = some.tries.stored;
          whole = make_up_others some.tried some.tries.stored some.kept b some.tries.whole;
          passes = rw (stays, set_own mid b.worker pass there) some.tries.passes;
        };
      }

  -- all have been tried
  pub tries_all : (count : ℕ) (waiting now : List Waiting) (old new : List (SenderLog (Item Any M S))) → TriesSome count waiting now old new → length waiting ≤ count → Tries waiting now old new
  tries_all count waiting now old new some enough =
      let none : some.rest ≡ [] = length-none some.rest (omega (arith, some.counted, ap length some.all, length-append some.tried some.rest)) in
      let all : waiting ≡ some.tried = some.all ∙ ap (λ (l : List Waiting). some.tried ++ l) none ∙ append-nil some.tried in
      let order : now ≡ some.kept = some.order ∙ ap (λ (l : List Waiting). l ++ some.kept) none in
      rw (all, order) some.tries
