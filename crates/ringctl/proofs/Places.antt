-- A line has one place at most: no place has a space, and a space follows it.
use Rattle.std.proofs.Common.{◌≡◌, ◌≢◌, ◌<◌, ◌∙◌, [], ◌∷◌, ◌++◌, ℕ, Bor, List, None, Option, Some, arith, inl, inr, length, lit<, refl, slice_index, subst, suc, sym, zero}
use Rattle.std.specs.Prelude.{◌↔◌, ⊤, Bool, IfSome, IsSomeAnd, IsTrue, MatchOption, codes, false, true}
use Rattle.std.proofs.lemmas.Str.Pattern.{IsSplitOnceResult, split_after}
use Rattle.ringctl.specs.Replies.{IsPlace, IsRefusal, IsWithoutPlace, line_of}
use Rattle.ringctl.specs.declared.reply.Reply.{Reply}

-- no byte of the text is a space
abbrev HasNoSpace : List ℕ → Type 0
HasNoSpace text = (i : ℕ) → i < length text → slice_index text i ≢ 32

-- a hyphen is no space
no_dash : HasNoSpace (45 ∷ [])
no_dash zero within is = absurd (omega (arith, is))
no_dash (suc i) within is = absurd (omega (arith, within))

-- a place has no space
no_space : (place : List ℕ) → IsPlace place → HasNoSpace place
no_space place (inl is) = subst HasNoSpace (sym is) no_dash
no_space place (inr (_, all)) = λ i within e. absurd (omega (arith, (all i 0 within).0, e))

-- a line is all that is left if its first word before a space is no place
pub unplaced : (line : List ℕ) (r : Option (Bor (List ℕ) × Bor (List ℕ))) → IsSplitOnceResult 32 line r
    → MatchOption r ⊤ (λ x. IsPlace x.0.now → ⊥) → IsWithoutPlace line line
unplaced line None cut other =
    inr ((λ rest (place, is, same). split_after 32 line place rest None cut (lit< tt) same (no_space place is)), refl)
unplaced line (Some x) cut other =
    inr ((λ rest (place, is, same). other (subst IsPlace (sym (split_after 32 line place rest (Some x) cut (lit< tt) same (no_space place is)).0) is)), refl)

-- what is found not to be so is not
pub other_word : (r : Bool) (P : Type 0) → (IsTrue r ↔ P) → r ≡ false → P → ⊥
other_word r P both is p = let yes : r ≡ true = both.1 p in absurd (cc)

-- two cuts at a first space leave the same rest
same_rest : (front name rear rest : List ℕ) → HasNoSpace front → HasNoSpace name
    → front ++ (32 ∷ rear) ≡ name ++ (32 ∷ rest) → rear ≡ rest
same_rest [] [] rear rest first other same = cc
same_rest [] (n ∷ name) rear rest first other same =
    let space : n ≡ 32 = cc in
    absurd (other 0 (omega arith) space)
same_rest (f ∷ front) [] rear rest first other same =
    let space : f ≡ 32 = cc in
    absurd (first 0 (omega arith) space)
same_rest (f ∷ front) (n ∷ name) rear rest first other same =
    let one : front ++ (32 ∷ rear) ≡ name ++ (32 ∷ rest) = cc in
    same_rest front name rear rest (λ i within. first (suc i) (omega arith)) (λ i within. other (suc i) (omega arith)) one

-- a line is one text without its place
same_bare : (line bare other : List ℕ) → IsWithoutPlace line bare → IsWithoutPlace line other → bare ≡ other
same_bare line bare other (inl (place, is, one)) (inl (name, was, two)) =
    same_rest place name bare other (no_space place is) (no_space name was) (sym one ∙ two)
same_bare line bare other (inl placed) (inr (none, _)) = absurd (none bare placed)
same_bare line bare other (inr (none, _)) (inl placed) = absurd (none other placed)
same_bare line bare other (inr (_, one)) (inr (_, two)) = one ∙ sym two

-- what follows from the value of an option
some_then : {V : Type 0} (r : Option V) (P Q : V → Type 0) → ((v : V) → P v → Q v) → IfSome r P → IfSome r Q
some_then (Some v) P Q then p = then v p
some_then None P Q then p = p

-- a reply that was read in a line without its place
module _ (line bare : List ℕ) (out : IsWithoutPlace line bare) (r : Option Reply) where
  pub whole : IfSome r (λ reply. line_of reply ≡ bare) → IfSome r (λ reply. IsWithoutPlace line (line_of reply))
  whole = some_then r _ _ (λ reply is. subst (IsWithoutPlace line) (sym is) out)

  pub refused : ((word : List ℕ) → bare ≡ codes "no " ++ word → IsSomeAnd r IsRefusal)
      → (word : List ℕ) → IsWithoutPlace line (codes "no " ++ word) → IsSomeAnd r IsRefusal
  refused at word is = at word (same_bare line bare _ out is)
