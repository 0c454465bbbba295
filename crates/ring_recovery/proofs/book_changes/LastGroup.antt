-- Changes of the group that was created last.
use Rattle.std.proofs.Common.{◌≡◌, ◌-◌, ℕ, true, false, cond, List, [], ◌∷◌, ◌++◌, Some, None, length, slice_get, refl, ap, sym, arith, length-append}
use Rattle.std.specs.Str.{bytes_eq}
use Rattle.std.proofs.lemmas.Option.{none-some}
use Rattle.std.proofs.lemmas.Slice.Eq.{bytes_eq-Decides}
use Rattle.std.proofs.Math.Seq.{set-append_seam}
use Rattle.ring_terms.specs.Object.{GroupView, InGroup, InLast, Object, TermView, find, with_group}

-- a group is found after groups of other names
pub find-here : {E : Type 0} (name : List ℕ) (group : GroupView E) (old after : Object E) → find name old ≡ None → find name (old ++ (name, group) ∷ after) ≡ Some group
find-here name group [] after free = rw ((bytes_eq-Decides name name).1 refl) refl
find-here {E} name group (entry ∷ old) after free =
    elim (bytes_eq name entry.0) as (λ b. cond b (Some entry.1) (find name old) ≡ None → cond b (Some entry.1) (find name (old ++ (name, group) ∷ after)) ≡ Some group) [
      | true ↦ λ some. absurd (none-some entry.1 (sym some))
      | false ↦ λ none. find-here name group old after none
    ] free

-- the last of groups is replaced
pub with_group-last : {E : Type 0} (name : List ℕ) (before after : GroupView E) (old : Object E) → find name old ≡ None → with_group name after (old ++ (name, before) ∷ []) ≡ old ++ (name, after) ∷ []
with_group-last name before after [] free = rw ((bytes_eq-Decides name name).1 refl) refl
with_group-last {E} name before after (entry ∷ old) free =
    elim (bytes_eq name entry.0) as (λ b. cond b (Some entry.1) (find name old) ≡ None → cond b ((entry.0, after) ∷ (old ++ (name, before) ∷ [])) (entry ∷ with_group name after (old ++ (name, before) ∷ [])) ≡ entry ∷ (old ++ (name, after) ∷ [])) [
      | true ↦ λ some. absurd (none-some entry.1 (sym some))
      | false ↦ λ none. ap (λ (rest : Object E). entry ∷ rest) (with_group-last name before after old none)
    ] free

-- the element after some others
pub at_seam : {X : Type 0} (front : List X) (x : X) (rest : List X) → slice_get (front ++ x ∷ rest) (length front) ≡ Some x
at_seam [] x rest = refl
at_seam (y ∷ front) x rest = at_seam front x rest

-- the place of the last element
last_place : {X : Type 0} (xs : List X) (x : X) → length (xs ++ x ∷ []) - 1 ≡ length xs
last_place xs x = omega (arith, length-append xs (x ∷ []))

-- a group with these terms
abbrev pub with_terms : {E : Type 0} → GroupView E → List TermView → GroupView E
with_terms group terms = record group { terms = terms }

-- if a relation holds between two terms, it holds between the last terms of two groups
pub in_last : {E : Type 0} {Happens : TermView → TermView → Type 0} (group : GroupView E) (terms : List TermView) (before after : TermView) → Happens before after →
    InLast Happens (with_terms group (terms ++ before ∷ [])) (with_terms group (terms ++ after ∷ []))
in_last {E} group terms before after happens = record {
  before = before;
  after = after;
  found = rw (last_place terms before) (at_seam terms before []);
  does = happens;
  rest = ap (λ (all : List TermView). with_terms group all) (sym (rw (last_place terms before) (set-append_seam terms before [] after)));
}

-- groups of which the last has this name
abbrev pub after : {E : Type 0} → Object E → List ℕ → GroupView E → Object E
after old name group = old ++ (name, group) ∷ []

-- if a relation holds between two groups, it holds in the book of which they are the last group
pub in_last_group : {E : Type 0} {Happens : GroupView E → GroupView E → Type 0} (name : List ℕ) (old : Object E) (before now : GroupView E) → find name old ≡ None → Happens before now →
    InGroup name Happens (after old name before) (after old name now)
in_last_group name old before now free happens = record {
  before = before;
  after = now;
  found = find-here name before old [] free;
  does = happens;
  rest = sym (with_group-last name before now old free);
}
