-- The facts that a group keeps of its terms from one call to the next, and that its last term
-- shows.
use Rattle.std.proofs.Common.{inl, inr, ◌≡◌, ◌+◌, ◌-◌, ◌<◌, ◌==◌, ℕ, Bool, false, true, List, [], ◌∷◌, ◌++◌, length, map, Option, None, Some, refl, sym, ◌∙◌, ap, subst, arith, slice_index_or, slice_set}
use Rattle.std.specs.Prelude.{nat_le, slice_get, Result, Ok, Err}
use Rattle.std.specs.List.{list_any}
use Rattle.std.proofs.lemmas.List.{length-map, length-replicate, length-set, map-set}
use Rattle.std.proofs.lemmas.Bool.{false≢true}
use Rattle.std.proofs.lemmas.Bool.Decides.{nat_tests}
use Rattle.std.proofs.lemmas.Option.{none-some, same_Some, slice_get-map, slice_get_read, slice_get_within}
use Rattle.ring_id.specs.declared.refusal.Refusal.{Refusal}
use Rattle.ring_roster.specs.Ring.{IsRing, has_number}
use Rattle.ring_node.specs.declared.charter.Charter.{Charter}
use Rattle.ring_node.specs.Reports.{Told}
use Rattle.ring_terms.specs.declared.group.Group.{Group}
use Rattle.ring_terms.specs.declared.standing.Noting.{Noting}
use Rattle.ring_terms.specs.declared.standing.Noting.TheVariants.{Noted, Known, Stale}
use Rattle.ring_terms.specs.declared.standing.Standing.{Standing}
use Rattle.ring_terms.specs.declared.term.Term.{Term}
use Rattle.ring_terms.specs.Books.{group_view, term_view}
use Rattle.ring_terms.specs.private.Books.{IsGroupOf, IsSound, IsTermOf, NotesGroup, NotesTerm}
use Rattle.ring_terms.specs.Charters.{next_charter, running_charter}
use Rattle.ring_terms.specs.Commands.{join_refusal, member_refusal, start_refusal, who_refusal, Shows}
use Rattle.ring_terms.specs.Kept.{IsTermKept}
use Rattle.ring_terms.specs.Object.{GroupView, TermView, last_term, leaders, new_term, with_last}
use Rattle.ring_terms.specs.Standings.{Tells, TellsIn}
use Rattle.ring_terms.proofs.Entries.{option_map-some}
use Rattle.ring_terms.proofs.Places.{slice_get-push, slice_get-replicate, slice_get-set, slice_set-same}

-- a term that starts on a ring keeps what terms keep
pub new_term_kept : (winner : List ℕ → ℕ) (ring : List ℕ) → IsRing ring → IsTermKept winner (new_term ring)
new_term_kept winner ring is_ring = record {
  is_ring = is_ring;
  marked = length-replicate (length ring) false;
  wins = λ leader h. absurd (none-some leader h);
  led = λ position h. absurd (false≢true (sym (slice_get-replicate (length ring) position false true h)));
  heard = λ h. absurd (false≢true h);
}

-- a group with a running charter has a term
pub some_term : {E : Type 0} (name : List ℕ) (g : Group E) (charter : Charter E) → running_charter name (group_view g) ≡ Some charter → 0 < length g.terms.items
some_term {E} name g charter running =
    let last = option_map-some _ (last_term (group_view g)) charter running in
    omega (arith, slice_get_within (group_view g).terms (length (group_view g).terms - 1) last.0 last.1, length-map g.terms.items (term_view {E = E}))

-- a last element as it is read by its index
pub last_read : {X : Type 0} (xs : List X) (n : ℕ) (x : X) → n ≡ length xs → 0 < n → x ≡ slice_index_or xs (n - 1) x → slice_get xs (length xs - 1) ≡ Some x
last_read xs n x e some is = slice_get_read xs (length xs) (length xs - 1) x refl (omega arith) (rw e at is)

-- a report never changes the charter of a term
charter_stays : {E : Type 0} (greatest : E → Bool) (report : Told E) (t : Term E) (noting : Noting) (u : Term E) → NotesTerm greatest report t noting u → u.charter.value ≡ t.charter.value
charter_stays greatest report t Noted u n = ap (λ c. c.value) n.1
charter_stays greatest report t Known u n = ap (λ v. v.charter.value) n.1
charter_stays greatest report t Stale u n = ap (λ v. v.charter.value) n.1

-- the leaders of terms are those of what the terms show
leaders_seen : {E : Type 0} (ts : List (Term E)) → map (λ (t : Term E). t.leader) ts ≡ map (λ (v : TermView). v.leader) (map (term_view {E = E}) ts)
leaders_seen [] = refl
leaders_seen (t ∷ ts) = ap (λ (rest : List (Option ℕ)). t.leader ∷ rest) (leaders_seen ts)

-- the leaders of the terms are those that the group shows
pub leaders_shown : {E : Type 0} (g : Group E) → map (λ (t : Term E). t.leader) g.terms.items ≡ leaders (group_view g)
leaders_shown g = leaders_seen g.terms.items

-- if start isn't refused, there are members and fewer terms than the most
pub start_allowed : {E : Type 0} (group : GroupView E) → start_refusal group ≡ None → (0 < length group.members) × (length group.terms < 1000)
start_allowed group none = (grind (arith, nat_tests), grind (arith, nat_tests))

-- if there are members and fewer terms than the most, start isn't refused
pub allowed_start : {E : Type 0} (group : GroupView E) → (length group.members == 0) ≡ false → length group.terms < 1000 → start_refusal group ≡ None
allowed_start group some short =
    let few : nat_le 1000 (length group.terms) ≡ false = grind (arith, nat_tests) in
    rw (some, few) refl

-- if no member has the number and there are fewer members than the most, join isn't refused
pub allowed_join : {E : Type 0} (group : GroupView E) (node : ℕ) → list_any (has_number node) group.members ≡ false → length group.members < 256 → join_refusal node group ≡ None
allowed_join group node free short =
    let few : nat_le 256 (length group.members) ≡ false = grind (arith, nat_tests) in
    rw (free, few) refl

module _ {E : Type 0} (winner : E → List ℕ → ℕ) (name : List ℕ) (g : Group E) (kept : IsGroupOf winner name g) where
  -- a group with these terms keeps its facts, if one more is of this group
  pub each_after_push : (t : Term E) → IsTermOf winner name g.algorithm (length g.terms.items + 1) t →
      (n : ℕ) (u : Term E) → slice_get (g.terms.items ++ t ∷ []) n ≡ Some u → IsTermOf winner name g.algorithm (n + 1) u
  each_after_push t of n u h =
      elim (slice_get-push g.terms.items n t u h) [
        | inl before ↦ kept.each n u before
        | inr last ↦ subst (λ v. IsTermOf winner name g.algorithm (n + 1) v) (sym last.1) (subst (λ m. IsTermOf winner name g.algorithm (m + 1) t) (sym last.0) of)
      ]

  -- the term of the next charter, on the member list, is the next of this group
  pub next_term : (t : Term E) → t.charter.value ≡ next_charter name (group_view g) → term_view t ≡ new_term t.charter.value.roster → IsRing g.members.items →
      IsTermOf winner name g.algorithm (length g.terms.items + 1) t
  next_term t is fresh is_ring =
      let on : IsRing t.charter.value.roster = subst IsRing (sym (ap (λ ch. ch.roster) is)) is_ring in
      record {
        chartered =
            is ∙ (λ j. record { group = name; term = length-map g.terms.items (term_view {E = E}) j + 1; algorithm = g.algorithm; roster = (sym (ap (λ ch. ch.roster) is)) j });
        kept = subst (λ v. IsTermKept (winner t.charter.value.algorithm) v) (sym fresh) (new_term_kept (winner t.charter.value.algorithm) t.charter.value.roster on);
      }

  -- and so does one with a term replaced by one of its charter
  pub each_after_set : (i : ℕ) (t : Term E) → IsTermOf winner name g.algorithm (i + 1) t →
      (n : ℕ) (u : Term E) → slice_get (slice_set g.terms.items i t) n ≡ Some u → IsTermOf winner name g.algorithm (n + 1) u
  each_after_set i t of n u h =
      elim (slice_get-set g.terms.items i n t u h) [
        | inl before ↦ kept.each n u before
        | inr written ↦ subst (λ v. IsTermOf winner name g.algorithm (n + 1) v) (sym written.1) (subst (λ m. IsTermOf winner name g.algorithm (m + 1) t) (sym written.0) of)
      ]

  module _ (t : Term E) (at : slice_get g.terms.items (length g.terms.items - 1) ≡ Some t) where
    -- the last term is at the place that is read
    pub last_shown : last_term (group_view g) ≡ Some (term_view t)
    last_shown = rw (length-map, slice_get-map, at) refl

    -- it is the term of this group whose number is the number of terms
    last_of : IsTermOf winner name g.algorithm (length g.terms.items) t
    last_of = subst (λ n. IsTermOf winner name g.algorithm n t) (omega (arith, slice_get_within g.terms.items (length g.terms.items - 1) t at)) (kept.each _ t at)

    -- it is sound
    pub last_sound : IsSound winner t
    last_sound = last_of.kept

    -- its charter is that of the last term of what the group shows
    pub last_chartered : running_charter name (group_view g) ≡ Some t.charter.value
    last_chartered = rw (last_shown, length-map) (ap Some (sym last_of.chartered))

    -- its number is the number of terms
    last_numbered : t.charter.value.term ≡ length (group_view g).terms
    last_numbered = ap (λ ch. ch.term) last_of.chartered ∙ sym (length-map g.terms.items (term_view {E = E}))

    -- what it says to a member is what the group says
    pub last_tells : (node : ℕ) (answer : Result Standing Refusal) → Shows (member_refusal node (term_view t)) false answer (λ s. TellsIn node t.charter.value.term s (term_view t)) →
        Shows (who_refusal node (group_view g)) false answer (λ s. Tells node s (group_view g))
    last_tells node (Ok standing) h =
        (rw last_shown h.0, record { term = term_view t; found = last_shown; says = subst (λ n. TellsIn node n standing (term_view t)) last_numbered h.1 })
    last_tells node (Err refusal) h = rw last_shown h

    module _ (u : Term E) (items : List (Term E)) (written : items ≡ slice_set g.terms.items (length g.terms.items - 1) u) where
      -- a write of the last term is seen as one
      changed : map (term_view {E = E}) items ≡ (with_last (term_view u) (group_view g)).terms
      changed =
          ap (map (term_view {E = E})) written
          ∙ map-set (term_view {E = E}) g.terms.items (length g.terms.items - 1) u
          ∙ ap (λ n. slice_set (map (term_view {E = E}) g.terms.items) (n - 1) (term_view u)) (sym (length-map g.terms.items (term_view {E = E})))

      -- and if the same term is written, nothing changes
      unchanged : u ≡ t → map (term_view {E = E}) items ≡ (group_view g).terms
      unchanged e =
          changed ∙ ap (λ v. (with_last (term_view v) (group_view g)).terms) e ∙ slice_set-same (group_view g).terms _ (term_view t) last_shown

      -- what filing a report does to the last term is what it does to the group
      pub last_notes : (greatest : E → Bool) (report : Told E) (noting : Noting) → NotesTerm greatest report t noting u →
          NotesGroup greatest name report (group_view g) noting (record (group_view g) { terms = map (term_view {E = E}) items })
      last_notes greatest report Noted n = (
        last_chartered ∙ ap Some n.0,
        record { before = term_view t; after = term_view u; found = last_shown; does = n.2; rest = ap (λ ts. record (group_view g) { terms = ts }) changed },
      )
      last_notes greatest report Known n = (
        last_chartered ∙ ap Some n.0,
        ap (λ ts. record (group_view g) { terms = ts }) (unchanged n.1),
        record { term = term_view t; found = last_shown; says = n.2 },
      )
      last_notes greatest report Stale n =
          (λ is. n.0 (same_Some _ _ (sym last_chartered ∙ is)), ap (λ ts. record (group_view g) { terms = ts }) (unchanged n.1))

      -- and the group's terms are its own after it
      terms_kept : (greatest : E → Bool) (report : Told E) (noting : Noting) → NotesTerm greatest report t noting u → IsSound winner u →
          (n : ℕ) (v : Term E) → slice_get items n ≡ Some v → IsTermOf winner name g.algorithm (n + 1) v
      terms_kept greatest report noting notes sound n v h =
          let within = slice_get_within g.terms.items (length g.terms.items - 1) t at in
          let stays : u.charter.value ≡ t.charter.value = charter_stays greatest report t noting u notes in
          let numbered : length g.terms.items ≡ length g.terms.items - 1 + 1 = omega arith in
          let chartered = subst (λ ch. ch ≡ record { group = name; term = length g.terms.items; algorithm = g.algorithm; roster = ch.roster }) (sym stays) last_of.chartered in
          let of : IsTermOf winner name g.algorithm (length g.terms.items) u = record { chartered = chartered; kept = sound } in
          each_after_set (length g.terms.items - 1) u (subst (λ m. IsTermOf winner name g.algorithm m u) numbered of) n v (subst (λ (l : List (Term E)). slice_get l n ≡ Some v) written h)

      -- so a group with these terms, and else as it was, keeps what groups keep
      pub last_kept : (after : Group E) → after.name ≡ name → after.algorithm ≡ g.algorithm → after.members.items ≡ g.members.items → after.terms.items ≡ items →
          (greatest : E → Bool) (report : Told E) (noting : Noting) → NotesTerm greatest report t noting u → IsSound winner u → IsGroupOf winner name after
      last_kept after named algorithm members terms greatest report noting notes sound = record {
        named = named;
        few = rw members kept.few;
        distinct = rw members kept.distinct;
        short = rw (terms, written, length-set) kept.short;
        each = λ n v h. rw algorithm (terms_kept greatest report noting notes sound n v (ap (λ (l : List (Term E)). slice_get l n) (sym terms) ∙ h));
      }
