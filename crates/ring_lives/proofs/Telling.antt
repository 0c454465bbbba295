-- The places of a life's entries in the history of all lives, and the changes of two histories.
use Rattle.std.proofs.Common.{◌≡◌, ◌≤◌, ◌<◌, ◌+◌, ℕ, zero, suc, Bool, List, [], ◌∷◌, ◌++◌, ◌⊎◌, inl, inr, Option, Some, None, length, take, slice_get, refl, ap, ◌∙◌, subst, append_assoc, arith, length-append}
use Rattle.ring_election.proofs.Members.{slice_get-append_left, slice_get-append_right}
use Rattle.ring_table.specs.declared.entry.Entry.{Entry}
use Rattle.ring_change.specs.declared.change.Change.{Change}
use Rattle.ring_lives.specs.Changes.{change_in, changes_of, onto}
use Rattle.ring_lives.specs.Lives.{AreToldIn, Life, Succeed, all_kept, all_told, kept}
use Rattle.ring_lives.specs.Leaders.{IsIn}

-- the changes of two histories, one after another
onto_more : {A : Type 0} (x : Option A) (xs ys : List A) → onto x (xs ++ ys) ≡ onto x xs ++ ys
onto_more None xs ys = refl
onto_more (Some x) xs ys = refl

pub changes_of-append : {E : Type 0} (first second : List (Entry E)) → changes_of (first ++ second) ≡ changes_of first ++ changes_of second
changes_of-append [] second = refl
changes_of-append {E} (entry ∷ first) second =
    ap (λ (changes : List (Change E)). onto (change_in entry) changes) (changes_of-append first second) ∙ onto_more (change_in entry) (changes_of first) (changes_of second)

-- an element at a place that is taken
taken : {X : Type 0} (n place : ℕ) (xs : List X) → place < n → slice_get (take n xs) place ≡ slice_get xs place
taken zero place xs below = absurd (omega arith)
taken (suc n) place [] below = refl
taken (suc n) zero (x ∷ xs) below = refl
taken (suc n) (suc place) (x ∷ xs) below = taken n place xs (omega arith)

-- an element of a list is after those of another
behind : {X : Type 0} (before xs after : List X) (place : ℕ) (x : X) → slice_get xs place ≡ Some x → slice_get (before ++ (xs ++ after)) (length before + place) ≡ Some x
behind before xs after place x at = slice_get-append_right before (xs ++ after) place ∙ slice_get-append_left xs after place x at

-- an element of one list after another is in the one or the other
in_either : {E : Type 0} (first second : List (Entry E)) (place : ℕ) (entry : Entry E) → slice_get (first ++ second) place ≡ Some entry → IsIn entry first ⊎ IsIn entry second
in_either [] second place entry at = inr (place, at)
in_either (e ∷ first) second zero entry at = inl (0, at)
in_either (e ∷ first) second (suc place) entry at =
    elim (in_either first second place entry at) [
      | inl before ↦ inl (suc before.0, before.1)
      | inr after ↦ inr after
    ]

-- an element among the first few is among more of them
taken_more : {X : Type 0} (few many place : ℕ) (xs : List X) (x : X) → few ≤ many → slice_get (take few xs) place ≡ Some x → slice_get (take many xs) place ≡ Some x
taken_more zero many place xs x within at = cc
taken_more (suc few) zero place xs x within at = absurd (omega arith)
taken_more (suc few) (suc many) place [] x within at = at
taken_more (suc few) (suc many) zero (y ∷ xs) x within at = at
taken_more (suc few) (suc many) (suc place) (y ∷ xs) x within at = taken_more few many place xs x (omega arith) at

module _ {E : Type 0} (two_way greatest : E → Bool) where
  -- entries whose replies clients got are after those of earlier lives
  pub told_in : (lives : List (Life E)) (before found : List (Entry E)) → Succeed two_way greatest found lives → AreToldIn (before ++ all_kept lives) (length before) lives
  told_in [] before found succeed = tt
  told_in (life ∷ lives) before found succeed =
      let rest = told_in lives (before ++ kept life) (life.opening ++ kept life) succeed.2 in (
        λ place entry told at.
            behind before (kept life) (all_kept lives) place entry (taken life.left place life.log (omega (arith, told, succeed.0.told)) ∙ at),
        subst (λ (offset : ℕ). AreToldIn (before ++ (kept life ++ all_kept lives)) offset lives) (length-append before (kept life))
            (subst (λ (history : List (Entry E)). AreToldIn history (length (before ++ kept life)) lives) (append_assoc before (kept life) (all_kept lives)) rest),
      )

  -- an entry whose reply a client got is in the history of all lives
  pub told_kept : (lives : List (Life E)) (found : List (Entry E)) (entry : Entry E) → Succeed two_way greatest found lives → IsIn entry (all_told lives) → IsIn entry (all_kept lives)
  told_kept [] found entry succeed told = told
  told_kept (life ∷ lives) found entry succeed told =
      elim (in_either (take life.told life.log) (all_told lives) told.0 entry told.1) [
        | inl here ↦ (here.0, slice_get-append_left (kept life) (all_kept lives) here.0 entry (taken_more life.told life.left here.0 life.log entry succeed.0.told here.1))
        | inr later ↦
            let rest = told_kept lives (life.opening ++ kept life) entry succeed.2 later in
            (length (kept life) + rest.0, slice_get-append_right (kept life) (all_kept lives) rest.0 ∙ rest.1)
      ]
