-- The facts that a book shows of a group that was looked up, and keeps after a write or an insert.
use Rattle.std.proofs.Common.{◌≡◌, ◌<◌, ◌≤◌, ℕ, Bool, true, false, cond, List, [], ◌∷◌, ◌++◌, length, Option, None, Some, refl, sym, ◌∙◌, ap, subst, arith, inl, inr}
use Rattle.std.specs.Prelude.{Result, Ok, Err, OnErr, OnOk, is_some, nat_le, position, slice_get}
use Rattle.std.specs.Map.{keys_of, lookup, set_value, values_of}
use Rattle.std.specs.List.{IsDistinct}
use Rattle.std.specs.Option.{option_map}
use Rattle.std.specs.Str.{bytes_eq}
use Rattle.std.proofs.lemmas.Cmp.{nat_list_eq_equiv}
use Rattle.std.proofs.lemmas.Bool.Decides.{nat_tests}
use Rattle.std.proofs.lemmas.List.{length-map, length_push, map-append}
use Rattle.std.proofs.lemmas.Map.{length-set_value, lookup-set_value}
use Rattle.std.proofs.lemmas.Map.Steps.{set_value_same}
use Rattle.std.proofs.lemmas.Option.{none-some, same_Some, slice_get-map}
use Rattle.std.proofs.lemmas.Slice.Eq.{bytes_eq-Decides}
use Rattle.indexmap.proofs.MapLemmas.{Found-position}
use Rattle.ring_id.specs.declared.refusal.Refusal.{Refusal}
use Rattle.ring_id.specs.declared.refusal.Refusal.TheVariants as refused
use Rattle.ring_id.specs.Refusals.{IsRefusal}
use Rattle.ring_node.specs.declared.charter.Charter.{Charter}
use Rattle.ring_node.specs.Reports.{Told}
use Rattle.ring_terms.specs.declared.group.Group.{Group}
use Rattle.ring_terms.specs.declared.standing.Noting.{Noting}
use Rattle.ring_terms.specs.declared.standing.Noting.TheVariants.{Noted, Known, Stale}
use Rattle.ring_terms.specs.Books.{group_view, object_view, term_view}
use Rattle.ring_terms.specs.private.Books.{IsBook, IsGroupOf, NotesGroup}
use Rattle.ring_terms.specs.Charters.{running_in}
use Rattle.ring_terms.specs.Commands.{create_refusal, in_group, Answers, Shows}
use Rattle.ring_terms.specs.Kept.{IsGroupKept, IsKept, IsTermKept}
use Rattle.ring_terms.specs.Notes.{NotesOf}
use Rattle.ring_terms.specs.Object.{GroupView, InGroup, Object, OfGroup, find, names, place_of, with_group}
use Rattle.ring_terms.proofs.Entries.{is_some-map, keys-map, lookup-map, lookup-push, option_map-some, position-apart, set_value-map, slice_get-seen}

-- a group that was looked up is found in what the book shows
pub found_in : {E : Type 0} (entries : List (List ℕ × Group E)) (object : Object E) → object_view entries ≡ object → (name : List ℕ) (g : Group E) →
    Some g ≡ lookup (bytes_eq name) entries → find name object ≡ Some (group_view g)
found_in {E} entries object is name g at =
    subst (λ (o : Object E). find name o ≡ Some (group_view g)) is (lookup-map (bytes_eq name) (group_view {E = E}) entries ∙ ap (option_map (group_view {E = E})) (sym at))

-- and one that was looked for in vain is not
pub missing_in : {E : Type 0} (entries : List (List ℕ × Group E)) (object : Object E) → object_view entries ≡ object → (name : List ℕ) →
    None ≡ lookup (bytes_eq name) entries → find name object ≡ None
missing_in {E} entries object is name at =
    subst (λ (o : Object E). find name o ≡ None) is (lookup-map (bytes_eq name) (group_view {E = E}) entries ∙ ap (option_map (group_view {E = E})) (sym at))

-- a book shows at a place what its entry there shows
pub entry_in : {E : Type 0} (entries : List (List ℕ × Group E)) (object : Object E) → object_view entries ≡ object → (place : ℕ) → slice_get object place ≡ option_map (λ (e : List ℕ × Group E). (e.0, group_view e.1)) (slice_get entries place)
entry_in {E} entries object is place =
    sym (ap (λ (o : Object E). slice_get o place) is) ∙ slice_get-map (λ (e : List ℕ × Group E). (e.0, group_view e.1)) entries place

-- what is so of the group of this name is so of what the one that was looked up shows
pub of_shown : {E : Type 0} (entries : List (List ℕ × Group E)) (object : Object E) → object_view entries ≡ object → (name : List ℕ) (g : Group E) → Some g ≡ lookup (bytes_eq name) entries →
    (Says : GroupView E → Type 0) → OfGroup name Says object → Says (group_view g)
of_shown entries object is name g at Says of = subst Says (same_Some of.group (group_view g) (sym of.found ∙ found_in entries object is name g at)) of.says

-- and it is not looked for in vain
pub of_there : {E : Type 0} (entries : List (List ℕ × Group E)) (object : Object E) → object_view entries ≡ object → (name : List ℕ) → None ≡ lookup (bytes_eq name) entries →
    (Says : GroupView E → Type 0) → OfGroup name Says object → ⊥
of_there entries object is name at Says of = none-some of.group (sym (missing_in entries object is name at) ∙ of.found)

-- if no group has this name, that is the first refusal
pub no_group : {E : Type 0} (object : Object E) (name : List ℕ) (first : GroupView E → Option Refusal) (grows : Bool) → find name object ≡ None → IsRefusal (in_group name first object) grows refused.NoGroup
no_group object name first grows missing = rw missing refl

-- the names that a book shows are the keys of its entries
pub names_in : {E : Type 0} (entries : List (List ℕ × Group E)) (object : Object E) → object_view entries ≡ object → names object ≡ keys_of entries
names_in {E} entries object is = ap names (sym is) ∙ keys-map (group_view {E = E}) entries

-- a group that has a place has that of its entry
pub place_in : {E : Type 0} (entries : List (List ℕ × Group E)) (object : Object E) → object_view entries ≡ object → (name : List ℕ) (place : ℕ) → place_of name object ≡ Some place →
    position (bytes_eq name) (keys_of entries) ≡ Some place
place_in entries object is name place placed = ap (position (bytes_eq name)) (sym (names_in entries object is)) ∙ placed

-- and the entry at that place is the one that is looked up
pub at_place : {E : Type 0} (entries : List (List ℕ × Group E)) (object : Object E) → object_view entries ≡ object → (name : List ℕ) (place : ℕ) → place_of name object ≡ Some place →
    lookup (bytes_eq name) entries ≡ slice_get (values_of entries) place
at_place entries object is name place placed = (Found-position (bytes_eq name) entries place (place_in entries object is name place placed)).value

-- what a group shows is what the book shows of the group of that name
pub group_shows : {E A : Type 0} (object : Object E) (name : List ℕ) (group : GroupView E) → find name object ≡ Some group →
    (first : GroupView E → Option Refusal) (grows : Bool) (answer : Result A Refusal) (Says : A → GroupView E → Type 0) →
    Shows (first group) grows answer (λ a. Says a group) → Shows (in_group name first object) grows answer (λ a. OfGroup name (Says a) object)
group_shows object name group found first grows (Ok a) Says shows =
    (rw found shows.0, record { group = group; found = found; says = shows.1 })
group_shows object name group found first grows (Err refusal) Says shows = rw found shows

module _ {E : Type 0} (entries : List (List ℕ × Group E)) (object : Object E) (is : object_view entries ≡ object) (name : List ℕ) (g h : Group E)
    (at : Some g ≡ lookup (bytes_eq name) entries) (after : List (List ℕ × Group E)) (written : after ≡ set_value (bytes_eq name) entries h) where
  -- the group that was looked up is found in what the book shows
  found : find name object ≡ Some (group_view g)
  found = found_in entries object is name g at

  -- a group that is written is written in what the book shows
  shown_after : object_view after ≡ with_group name (group_view h) object
  shown_after =
      ap (object_view {E = E}) written ∙ sym (set_value-map (bytes_eq name) (group_view {E = E}) entries h) ∙ ap (with_group name (group_view h)) is

  -- and changes nothing if it shows the same
  same_after : group_view h ≡ group_view g → object_view after ≡ object
  same_after same =
      shown_after ∙ ap (λ v. with_group name v object) same ∙ set_value_same (bytes_eq name) object (group_view g) found

  -- what a command does to a group is what it does to the object
  pub group_answers : {A : Type 0} (first : GroupView E → Option Refusal) (grows : Bool) (answer : Result A Refusal) (Does : A → GroupView E → GroupView E → Type 0) →
      Answers (first (group_view g)) grows (group_view g) answer (group_view h) (λ a. Does a (group_view g) (group_view h)) →
      Answers (in_group name first object) grows object answer (object_view after) (λ a. InGroup name (Does a) object (object_view after))
  group_answers first grows (Ok a) Does answers =
      (rw found answers.0, record { before = group_view g; after = group_view h; found = found; does = answers.1; rest = shown_after })
  group_answers first grows (Err refusal) Does answers = (same_after answers.0, rw found answers.1)

  -- and what is done to it without a refusal is done to the object
  pub group_done : {A B : Type 0} (answer : Result A B) (Does : GroupView E → GroupView E → Type 0) → OnOk answer (Does (group_view g) (group_view h)) → OnOk answer (InGroup name Does object (object_view after))
  group_done (Ok a) Does does = record { before = group_view g; after = group_view h; found = found; does = does; rest = shown_after }
  group_done (Err b) Does does = does

  -- and if a refusal changes nothing of it, the object stays
  pub group_stays : {A B : Type 0} (answer : Result A B) → OnErr answer (group_view h ≡ group_view g) → OnErr answer (object_view after ≡ object)
  group_stays (Ok a) same = same
  group_stays (Err b) same = same_after same

  -- and so it is with a report
  pub group_notes : (greatest : E → Bool) (report : Told E) (noting : Noting) → NotesGroup greatest name report (group_view g) noting (group_view h) → NotesOf greatest name report object noting (object_view after)
  group_notes greatest report Noted n =
      (rw found n.0, record { before = group_view g; after = group_view h; found = found; does = n.1; rest = shown_after })
  group_notes greatest report Known n = (rw found n.0, same_after n.1, record { group = group_view g; found = found; says = n.2 })
  group_notes greatest report Stale n = (λ running. n.0 (rw found at running), same_after n.1)

-- if no group has this name, no charter is of a last term there
pub nothing_runs : {E : Type 0} (name : List ℕ) (object : Object E) (charter : Charter E) → find name object ≡ None → running_in name object ≡ Some charter → ⊥
nothing_runs name object charter missing running = none-some charter (sym (rw missing refl) ∙ running)

-- two names that are equal as lists of bytes are one
one_name : (name other : List ℕ) → bytes_eq name other ≡ true → name ≡ other
one_name name other same = (bytes_eq-Decides name other).0 same

module _ {E : Type 0} (winner : E → List ℕ → ℕ) (entries : List (List ℕ × Group E)) (kept : IsBook winner entries) (name : List ℕ) (h : Group E) (of : IsGroupOf winner name h) where
  -- what a book keeps of its groups, after one was added
  pub kept_after_push : length entries < 256 → IsBook winner (entries ++ (name, h) ∷ [])
  kept_after_push room = record {
    few = omega (arith, length_push entries (name, h));
    each = λ other u is. elim (lookup-push (bytes_eq other) entries name h u is) [
      | inl before ↦ kept.each other u before
      | inr last ↦ subst (λ v. IsGroupOf winner other v) last.1 (subst (λ n. IsGroupOf winner n h) (sym (one_name other name last.0)) of)
    ];
  }

  -- and after one that was there was written
  pub kept_after_write : (g : Group E) → Some g ≡ lookup (bytes_eq name) entries → IsBook winner (set_value (bytes_eq name) entries h)
  kept_after_write g at = record {
    few = rw length-set_value kept.few;
    each = λ other u is.
        let found = sym (lookup-set_value nat_list_eq_equiv (bytes_eq name) (nat_list_eq_equiv.congr name) other h entries (ap is_some (sym at))) ∙ is in
        elim (bytes_eq name other) as (λ b. bytes_eq name other ≡ b → cond b (Some h) (lookup (bytes_eq other) entries) ≡ Some u → IsGroupOf winner other u) [
          | true ↦ λ same here. subst (λ v. IsGroupOf winner other v) (same_Some h u here) (subst (λ n. IsGroupOf winner n h) (one_name name other same) of)
          | false ↦ λ _ there. kept.each other u there
        ] refl found;
  }

-- create, if a group has this name
pub create_exists : {E : Type 0} (name : List ℕ) (object : Object E) → is_some (find name object) ≡ true → IsRefusal (create_refusal name object) true refused.Exists
create_exists name object there = rw there refl

-- if there are as many groups as there may be
pub create_full : {E : Type 0} (name : List ℕ) (object : Object E) → is_some (find name object) ≡ false → 256 ≤ length object → IsRefusal (create_refusal name object) true refused.GroupLimit
create_full name object new full =
    let limit : nat_le 256 (length object) ≡ true = grind (arith, nat_tests) in
    rw (new, limit) refl

-- and if only memory can refuse it
pub create_free : {E : Type 0} (name : List ℕ) (object : Object E) → is_some (find name object) ≡ false → length object < 256 → create_refusal name object ≡ None
create_free name object new room =
    let limit : nat_le 256 (length object) ≡ false = grind (arith, nat_tests) in
    rw (new, limit) refl

-- whether a book's entries have a name is whether what it shows has it
pub some_in : {E : Type 0} (entries : List (List ℕ × Group E)) (object : Object E) → object_view entries ≡ object → (name : List ℕ) → is_some (find name object) ≡ is_some (lookup (bytes_eq name) entries)
some_in {E} entries object is name =
    ap (λ (o : Object E). is_some (find name o)) (sym is) ∙ ap is_some (lookup-map (bytes_eq name) (group_view {E = E}) entries) ∙ is_some-map (group_view {E = E}) (lookup (bytes_eq name) entries)

-- what a book shows has as many groups as it has entries
pub length_in : {E : Type 0} (entries : List (List ℕ × Group E)) (object : Object E) → object_view entries ≡ object → length object ≡ length entries
length_in {E} entries object is = ap length (sym is) ∙ length-map entries (λ (e : List ℕ × Group E). (e.0, group_view e.1))

-- one more entry is seen as one more group
pub shown_push : {E : Type 0} (entries : List (List ℕ × Group E)) (object : Object E) → object_view entries ≡ object → (name : List ℕ) (g : Group E) (group : GroupView E) → group_view g ≡ group →
    object_view (entries ++ (name, g) ∷ []) ≡ object ++ (name, group) ∷ []
shown_push {E} entries object is name g group shown =
    map-append (λ (e : List ℕ × Group E). (e.0, group_view e.1)) entries ((name, g) ∷ []) ∙ (λ j. is j ++ (name, shown j) ∷ [])

-- a group of a book keeps what groups keep
group_kept : {E : Type 0} (winner : E → List ℕ → ℕ) (name : List ℕ) (g : Group E) → IsGroupOf winner name g → IsGroupKept winner (group_view g)
group_kept {E} winner name g of = record {
  few = of.few;
  distinct = of.distinct;
  short = omega (arith, length-map g.terms.items (term_view {E = E}), of.short);
  each = λ n term at.
      let t = option_map-some (term_view {E = E}) (slice_get g.terms.items n) term (sym (slice_get-map (term_view {E = E}) g.terms.items n) ∙ at) in
      let is = of.each n t.0 t.1 in
      subst (λ v. IsTermKept (winner g.algorithm) v) t.2 (subst (λ a. IsTermKept (winner a) (term_view t.0)) (ap (λ ch. ch.algorithm) is.chartered) is.kept);
}

-- and so what a book shows is as it should be
pub object_kept : {E : Type 0} (winner : E → List ℕ → ℕ) (entries : List (List ℕ × Group E)) (object : Object E) → object_view entries ≡ object → IsBook winner entries → IsDistinct bytes_eq (keys_of entries) →
    IsKept winner object
object_kept {E} winner entries object is kept apart = record {
  few = omega (arith, length_in entries object is, kept.few);
  each = λ name group at.
      let g = option_map-some (group_view {E = E}) (lookup (bytes_eq name) entries) group (sym (lookup-map (bytes_eq name) (group_view {E = E}) entries) ∙ subst (λ (o : Object E). find name o ≡ Some group) (sym is) at) in
      subst (IsGroupKept winner) g.2 (group_kept winner name g.0 (kept.each name g.0 g.1));
  apart = λ place name group at.
      let key = slice_get-seen (group_view {E = E}) entries place name group (subst (λ (o : Object E). slice_get o place ≡ Some (name, group)) (sym is) at) in
      ap (position (bytes_eq name)) (names_in entries object is) ∙ position-apart bytes_eq nat_list_eq_equiv (keys_of entries) place name apart key;
}
