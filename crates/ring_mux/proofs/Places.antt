-- Worlds at the places of their groups: what a look-up under a name finds, and what a write at a place changes.
use Rattle.std.proofs.Common.{◌≡◌, ◌≢◌, ◌<◌, ◌≤◌, ℕ, zero, suc, Bool, true, false, cond, List, [], ◌∷◌, ◌++◌, length, get_or, replicate, slice_get, slice_set, nat_lt, position, Option, None, Some, refl, sym, ap, ◌∙◌, arith}
use Rattle.std.specs.List.{position_or_len}
use Rattle.std.specs.Map.{lookup, set_value}
use Rattle.std.specs.Str.{bytes_eq}
use Rattle.std.proofs.lemmas.Cmp.{nat_list_eq_equiv}
use Rattle.std.proofs.lemmas.Map.{keys-set_value}
use Rattle.std.proofs.Math.ListN.{length-set}
use Rattle.std.proofs.lemmas.Bool.Decides.{nat_tests}
use Rattle.std.proofs.lemmas.List.Quantifiers.{position-Some}
use Rattle.std.proofs.lemmas.List.Sums.{position_or_len_is}
use Rattle.std.proofs.lemmas.Option.{get_or_from_slice_get, none-some, same_Some, slice_get-get_or, slice_get_within}
use Rattle.std.proofs.lemmas.Slice.Eq.{bytes_eq-Decides}
use Rattle.std.specs.Option.{ok_or}
use Rattle.std.proofs.lemmas.List.{length_push}
use Rattle.ring_id.specs.declared.refusal.Refusal.TheVariants.{NoGroup}
use Rattle.ring_terms.specs.Commands.{Creates, Shows, StartsWith, in_group, running_refusal}
use Rattle.ring_terms.specs.Charters.{next_charter}
use Rattle.ring_node.specs.declared.charter.Charter.{Charter}
use Rattle.ring_terms.specs.Kept.{IsKept}
use Rattle.ring_terms.specs.Object.{GroupView, InGroup, Object, OfGroup, find, names, new_group, place_of}
use Rattle.ring_id.specs.declared.side.Side.{Side}
use Rattle.ring_id.specs.Identity.{number_of}
use Rattle.ring_roster.specs.Ring.{IsRing}
use Rattle.ring_election.specs.Tables.{Table}
use Rattle.ring_election.specs.Families.{Fitting}
use Rattle.ring_world.specs.Worlds.{IsSoundWorld, Running}
use Rattle.ring_mux.specs.Journeys.{HasCarried, begun_of, with_world}
use Rattle.ring_terms.specs.Steps.{MovesOf}
use Rattle.ring_mux.specs.private.Views.{HasGrown, IsAt, IsKeptAt, IsSoundHeld}
use Rattle.ring_mux.specs.Views.{Held, IsHeld, placed, world_in}
use Rattle.ring_mux.proofs.Carrying.{position_here, same_found}
use Rattle.ring_mux.proofs.Drains.{kept}
use Rattle.ring_mux.proofs.Holding.{held_starts}
use Rattle.ring_mux.proofs.Keeping.{sound_updated}

-- names that differ are not equal as bytes
names_differ : (name other : List ℕ) → name ≢ other → bytes_eq name other ≡ false
names_differ name other differ =
    elim (bytes_eq name other) as (λ b. bytes_eq name other ≡ b → b ≡ false) [ true ↦ λ same. absurd (differ ((bytes_eq-Decides name other).0 same)) | false ↦ λ _. refl ] refl

-- a name that stands in the rest stands one place further on
at_tail : (name first : List ℕ) (place : ℕ) (rest : List (List ℕ)) → IsAt name (suc place) (first ∷ rest) → IsAt name place rest
at_tail name first place rest at = record {
  here = at.here;
  alone = λ other there. let next : suc other ≡ suc place = at.alone (suc other) there in omega (arith, next);
}

-- and then the first name is another
at_differs : (name first : List ℕ) (place : ℕ) (rest : List (List ℕ)) → IsAt name (suc place) (first ∷ rest) → name ≢ first
at_differs name first place rest at same = let first_place : 0 ≡ suc place = at.alone 0 (ap Some (sym same)) in omega (arith, first_place)

-- a name among the names of groups is that of an entry
entry_at : {E : Type 0} (object : Object E) (place : ℕ) (name : List ℕ) → slice_get (names object) place ≡ Some name → (group : GroupView E) × (slice_get object place ≡ Some (name, group))
entry_at [] place name there = absurd (none-some name there)
entry_at (e ∷ object) zero name there = (e.1, ap (λ n. Some (n, e.1)) (same_Some e.0 name there))
entry_at (e ∷ object) (suc place) name there = entry_at object place name there

-- a name that stands at one place alone differs from those before it
before_differs : (name : List ℕ) (place : ℕ) (ns : List (List ℕ)) → IsAt name place ns → (j : ℕ) → j < place → name ≢ get_or ns j name
before_differs name place ns at j below same =
    let within = slice_get_within ns place name at.here in
    let there : j ≡ place = at.alone j (slice_get-get_or ns j name (omega (arith, within, below)) ∙ ap Some (sym same)) in
    omega (arith, there, below)

-- and so it is found at that place
pub place_at : (name : List ℕ) (place : ℕ) (ns : List (List ℕ)) → IsAt name place ns → position (bytes_eq name) ns ≡ Some place
place_at name place ns at =
    let within = slice_get_within ns place name at.here in
    let here : get_or ns place name ≡ name = get_or_from_slice_get ns place name name at.here in
    let first : position_or_len (bytes_eq name) ns ≡ place =
    position_or_len_is (bytes_eq name) ns place name (omega (arith, within)) (λ j below. names_differ name (get_or ns j name) (before_differs name place ns at j below)) (λ _. ap (bytes_eq name) here ∙ nat_list_eq_equiv.refl name) in
    let inside : nat_lt place (length ns) ≡ true = grind (arith, nat_tests) in
    ap (λ (n : ℕ). cond (nat_lt n (length ns)) (Some n) None) first ∙ ap (λ (b : Bool). cond b (Some place) None) inside

-- what stands at a place of a list of worlds, or none
abbrev pub world_at : {X : Type 0} → List (Option X) → ℕ → Option X
world_at [] place = None
world_at (slot ∷ slots) zero = slot
world_at (slot ∷ slots) (suc place) = world_at slots place

-- a name that stands nowhere has no world
none_placed : {X : Type 0} (name : List ℕ) (ns : List (List ℕ)) (slots : List (Option X)) → ((other : ℕ) → slice_get ns other ≢ Some name) → lookup (bytes_eq name) (placed ns slots) ≡ None
none_placed name [] slots never = refl
none_placed name (n ∷ ns) [] never = refl
none_placed name (n ∷ ns) (None ∷ slots) never = none_placed name ns slots (λ other. never (suc other))
none_placed {X} name (n ∷ ns) (Some x ∷ slots) never =
    ap (λ b. cond b (Some x) (lookup (bytes_eq name) (placed ns slots))) (names_differ name n (λ same. never 0 (ap Some (sym same))))
    ∙ none_placed name ns slots (λ other. never (suc other))

-- under a name stands what is at its place
pub found_at : {X : Type 0} (name : List ℕ) (place : ℕ) (ns : List (List ℕ)) (slots : List (Option X)) → IsAt name place ns → lookup (bytes_eq name) (placed ns slots) ≡ world_at slots place
found_at name place [] slots at = absurd (none-some name at.here)
found_at name place (n ∷ ns) [] at = refl
found_at name zero (n ∷ ns) (None ∷ slots) at = none_placed name ns slots (λ other there. let first_place : suc other ≡ 0 = at.alone (suc other) there in omega (arith, first_place))
found_at name zero (n ∷ ns) (Some x ∷ slots) at =
    ap (λ b. cond b (Some x) (lookup (bytes_eq name) (placed ns slots))) (ap (bytes_eq name) (same_Some n name at.here) ∙ nat_list_eq_equiv.refl name)
found_at name (suc place) (n ∷ ns) (None ∷ slots) at = found_at name place ns slots (at_tail name n place ns at)
found_at name (suc place) (n ∷ ns) (Some x ∷ slots) at =
    ap (λ b. cond b (Some x) (lookup (bytes_eq name) (placed ns slots))) (names_differ name n (at_differs name n place ns at))
    ∙ found_at name place ns slots (at_tail name n place ns at)

-- a world that is written over another at its place is written under its name
pub written_at : {X : Type 0} (name : List ℕ) (place : ℕ) (ns : List (List ℕ)) (slots : List (Option X)) (x y : X) → IsAt name place ns → world_at slots place ≡ Some x
    → placed ns (slice_set slots place (Some y)) ≡ set_value (bytes_eq name) (placed ns slots) y
written_at name place [] slots x y at there = absurd (none-some name at.here)
written_at name place (n ∷ ns) [] x y at there = absurd (none-some x there)
written_at name zero (n ∷ ns) (None ∷ slots) x y at there = absurd (none-some x there)
written_at name zero (n ∷ ns) (Some v ∷ slots) x y at there =
    sym (ap (λ b. cond b ((n, y) ∷ placed ns slots) ((n, v) ∷ set_value (bytes_eq name) (placed ns slots) y)) (ap (bytes_eq name) (same_Some n name at.here) ∙ nat_list_eq_equiv.refl name))
written_at name (suc place) (n ∷ ns) (None ∷ slots) x y at there = written_at name place ns slots x y (at_tail name n place ns at) there
written_at {X} name (suc place) (n ∷ ns) (Some v ∷ slots) x y at there =
    ap (λ (l : List (List ℕ × X)). (n, v) ∷ l) (written_at name place ns slots x y (at_tail name n place ns at) there)
    ∙ sym (ap (λ b. cond b ((n, y) ∷ placed ns slots) ((n, v) ∷ set_value (bytes_eq name) (placed ns slots) y)) (names_differ name n (at_differs name n place ns at)))

-- what a look-up among two finds, where the first was written over
over : {X : Type 0} (a b : Bool) (x : X) (rest : Option X) (v : X) → (a ≡ b) → cond a (Some x) rest ≡ cond b (Some x) (cond a (Some v) rest)
over true true x rest v same = refl
over true false x rest v same = cc
over false true x rest v same = cc
over false false x rest v same = refl

-- a name and itself the other way round
same_turned : (name other : List ℕ) → bytes_eq other name ≡ bytes_eq name other
same_turned name other =
    elim (bytes_eq name other) as (λ b. bytes_eq name other ≡ b → bytes_eq other name ≡ b) [
      | true ↦ λ same. ap (bytes_eq other) ((bytes_eq-Decides name other).0 same) ∙ nat_list_eq_equiv.refl other
      | false ↦ λ differ. names_differ other name (λ same. let both : true ≡ false = sym (ap (bytes_eq name) same ∙ nat_list_eq_equiv.refl name) ∙ differ in cc)
    ] refl

-- a world that is put at a place stands under its name, and every other stays
pub put_at : {X : Type 0} (name : List ℕ) (place : ℕ) (ns : List (List ℕ)) (slots : List (Option X)) (x : X) → IsAt name place ns → place < length slots
    → (other : List ℕ) → lookup (bytes_eq other) (placed ns (slice_set slots place (Some x))) ≡ cond (bytes_eq name other) (Some x) (lookup (bytes_eq other) (placed ns slots))
put_at name place [] slots x at inside other = absurd (none-some name at.here)
put_at name place (n ∷ ns) [] x at inside other = absurd (omega (arith, inside))
put_at name zero (n ∷ ns) (None ∷ slots) x at inside other =
    ap (λ b. cond b (Some x) (lookup (bytes_eq other) (placed ns slots))) (ap (bytes_eq other) (same_Some n name at.here) ∙ same_turned name other)
put_at name zero (n ∷ ns) (Some v ∷ slots) x at inside other =
    over (bytes_eq other n) (bytes_eq name other) x (lookup (bytes_eq other) (placed ns slots)) v (ap (bytes_eq other) (same_Some n name at.here) ∙ same_turned name other)
put_at name (suc place) (n ∷ ns) (None ∷ slots) x at inside other = put_at name place ns slots x (at_tail name n place ns at) (omega (arith, inside)) other
put_at name (suc place) (n ∷ ns) (Some v ∷ slots) x at inside other =
    elim (bytes_eq other n) as (λ b. bytes_eq other n ≡ b → cond b (Some v) (lookup (bytes_eq other) (placed ns (slice_set slots place (Some x)))) ≡ cond (bytes_eq name other) (Some x) (cond b (Some v) (lookup (bytes_eq other) (placed ns slots)))) [
      | true ↦ λ same. ap (λ b. cond b (Some x) (Some v)) (sym (names_differ name other (λ e. at_differs name n place ns at (e ∙ (bytes_eq-Decides other n).0 same))))
      | false ↦ λ _. put_at name place ns slots x (at_tail name n place ns at) (omega (arith, inside)) other
    ] refl

-- places with nothing at them are not seen
none_seen : {X : Type 0} (ns : List (List ℕ)) (more : ℕ) → placed {X = X} ns (replicate more None) ≡ []
none_seen [] more = refl
none_seen (n ∷ ns) zero = refl
none_seen {X} (n ∷ ns) (suc more) = none_seen {X = X} ns more

pub grown_seen : {X : Type 0} (ns : List (List ℕ)) (slots : List (Option X)) (more : ℕ) → placed ns (slots ++ replicate more None) ≡ placed ns slots
grown_seen [] slots more = refl
grown_seen {X} (n ∷ ns) [] more = none_seen {X = X} (n ∷ ns) more
grown_seen (n ∷ ns) (None ∷ slots) more = grown_seen ns slots more
grown_seen {X} (n ∷ ns) (Some x ∷ slots) more = ap (λ (l : List (List ℕ × X)). (n, x) ∷ l) (grown_seen ns slots more)

-- nor is a name after the last place
pub name_unseen : {X : Type 0} (ns : List (List ℕ)) (name : List ℕ) (slots : List (Option X)) → length slots ≤ length ns → placed (ns ++ name ∷ []) slots ≡ placed ns slots
name_unseen [] name [] few = refl
name_unseen [] name (slot ∷ slots) few = absurd (omega (arith, few))
name_unseen (n ∷ ns) name [] few = refl
name_unseen (n ∷ ns) name (None ∷ slots) few = name_unseen ns name slots (omega (arith, few))
name_unseen {X} (n ∷ ns) name (Some x ∷ slots) few = ap (λ (l : List (List ℕ × X)). (n, x) ∷ l) (name_unseen ns name slots (omega (arith, few)))

-- the names stay where a group changes
pub names_kept : {E : Type 0} (name : List ℕ) (Does : GroupView E → GroupView E → Type 0) (old new : Object E) → InGroup name Does old new → names new ≡ names old
names_kept name Does old new inside = ap names inside.rest ∙ keys-set_value (bytes_eq name) old inside.after

-- and where a delivery moves it
pub names_carried : {E S M : Type 0} (t : E → Table S M) (greatest : E → Bool) (name : List ℕ) (i : ℕ) (side : Side) (old new : Held E M) (world : Running E M) → world_in name old.worlds ≡ Some world →
    HasCarried t greatest name i side old new → IsRing world.charter.roster → i < length world.charter.roster → names new.object ≡ names old.object
names_carried t greatest name i side old new world found carried ring inside =
    let roster = world.charter.roster in
    let node = number_of (get_or roster i 0) in
    let same = same_found (world_in name old.worlds) carried.before world carried.found found in
    names_kept name (MovesOf greatest node) old.object new.object (carried.object node (rw same (position_here roster i ring inside)))

-- where a world stands there is a place
pub inside_at : {X : Type 0} (slots : List (Option X)) (place : ℕ) (x : X) → world_at slots place ≡ Some x → place < length slots
inside_at [] place x there = absurd (none-some x there)
inside_at (slot ∷ slots) zero x there = omega arith
inside_at (slot ∷ slots) (suc place) x there = let rest = inside_at slots place x there in omega (arith, rest)

-- what stands at a place inside, read by its number
pub read_at : {X : Type 0} (slots : List (Option X)) (place : ℕ) (other : Option X) → place < length slots → get_or slots place other ≡ world_at slots place
read_at [] place other inside = absurd (omega (arith, inside))
read_at (slot ∷ slots) zero other inside = refl
read_at (slot ∷ slots) (suc place) other inside = read_at slots place other (omega (arith, inside))

-- a group's place, and no other of its name: as a book finds it
pub at_place : {E : Type 0} (winner : E → List ℕ → ℕ) (name : List ℕ) (place : ℕ) (object : Object E) → place_of name object ≡ Some place → IsKept winner object → IsAt name place (names object)
at_place winner name place object found kept =
    let at = position-Some (bytes_eq name) (names object) place name found in
    let same : name ≡ get_or (names object) place name = (bytes_eq-Decides name (get_or (names object) place name)).0 at.1 in
    record {
      here = slice_get-get_or (names object) place name at.0 ∙ ap Some (sym same);
      alone = λ other there.
          let entry = entry_at object other name there in
          same_Some other place (sym (kept.apart other name entry.0 entry.1) ∙ found);
    }

-- a group that is found is that of an entry
found_entry : {E : Type 0} (name : List ℕ) (object : Object E) (group : GroupView E) → find name object ≡ Some group → (place : ℕ) × (slice_get object place ≡ Some (name, group))
found_entry name [] group found = absurd (none-some group found)
found_entry {E} name (e ∷ object) group found =
    elim (bytes_eq name e.0) as (λ b. bytes_eq name e.0 ≡ b → cond b (Some e.1) (find name object) ≡ Some group → (place : ℕ) × (slice_get (e ∷ object) place ≡ Some (name, group))) [
      | true ↦ λ same here.
          let name_is : e.0 ≡ name = sym ((bytes_eq-Decides name e.0).0 same) in
          let group_is : e.1 ≡ group = same_Some e.1 group here in
          (0, (λ j. Some (name_is j, group_is j)))
      | false ↦ λ _ there. let rest = found_entry name object group there in (suc rest.0, rest.1)
    ] refl found

-- and so it has a place
pub has_place : {E : Type 0} (winner : E → List ℕ → ℕ) (name : List ℕ) (object : Object E) (group : GroupView E) → IsKept winner object → find name object ≡ Some group → place_of name object ≡ None → ⊥
has_place winner name object group kept found none =
    let entry = found_entry name object group found in
    none-some entry.0 (sym none ∙ kept.apart entry.0 name group entry.1)

module _ {E S M : Type 0} (t : E → Table S M) (object : Object E) (slots : List (Option (Running E M))) (held : IsHeld t object (placed (names object) slots)) (name : List ℕ) (place : ℕ) (at : IsAt name place (names object)) (runs : OfGroup name (λ g. running_refusal g ≡ None) object) where
  -- a group that runs has its world at its place
  pub world_there : (w : Running E M) × (world_at slots place ≡ Some w) × (world_in name (placed (names object) slots) ≡ Some w)
  world_there =
      let of = kept t object (placed (names object) slots) held name runs in
      (of.world, sym (found_at name place (names object) slots at) ∙ of.found, of.found)

  pub place_inside : place < length slots
  place_inside = inside_at slots place (world_there.0) (world_there.1)

  -- and what is read there is that world
  slot_there : (slot : Option (Running E M)) → slot ≡ get_or slots place slot → slot ≡ Some (world_there.0)
  slot_there slot read = read ∙ read_at slots place slot place_inside ∙ world_there.1

  pub slot_filled : (slot : Option (Running E M)) → slot ≡ get_or slots place slot → slot ≡ None → ⊥
  slot_filled slot read none = none-some world_there.0 (sym none ∙ slot_there slot read)

  pub world_read : (slot : Option (Running E M)) (w : Running E M) → slot ≡ get_or slots place slot → slot ≡ Some w → (world_at slots place ≡ Some w) × (world_in name (placed (names object) slots) ≡ Some w)
  world_read slot w read is = (sym (read ∙ read_at slots place slot place_inside) ∙ is, world_there.2 ∙ sym (slot_there slot read) ∙ is)

-- a group that runs has a place
pub place_shows : {E : Type 0} (winner : E → List ℕ → ℕ) (name : List ℕ) (object : Object E) → IsKept winner object → in_group name running_refusal object ≡ None → (runs : OfGroup name (λ g. running_refusal g ≡ None) object) →
    (o : Option ℕ) → place_of name object ≡ o → Shows (in_group name running_refusal object) false (ok_or o NoGroup) (λ place. IsAt name place (names object) × OfGroup name (λ g. running_refusal g ≡ None) object)
place_shows winner name object keeps allowed runs (Some place) is = (allowed, (at_place winner name place object is keeps, runs))
place_shows winner name object keeps allowed runs None is = absurd (has_place winner name object runs.group keeps runs.found is)

module _ {E M : Type 0} (object object' : Object E) (same : names object' ≡ names object) (slots : List (Option (Running E M))) (name : List ℕ) (place : ℕ) (at : IsAt name place (names object)) (world world' : Running E M) (there : world_at slots place ≡ Some world) where
  -- a world that changed at its place is written under its name
  pub view_written : placed (names object') (slice_set slots place (Some world')) ≡ with_world name world' (placed (names object) slots)
  view_written = ap (λ ns. placed ns (slice_set slots place (Some world'))) same ∙ written_at name place (names object) slots world world' at there

  -- and what is kept of the worlds is kept of their places
  pub kept_written : {S : Type 0} (t : E → Table S M) (fits : E → Fitting M) (winner : E → List ℕ → ℕ) → length slots ≤ length (names object) →
      IsSoundHeld t fits winner object' (with_world name world' (placed (names object) slots)) → IsKeptAt t fits winner object' (slice_set slots place (Some world'))
  kept_written t fits winner few kept = record {
    held = rw view_written kept;
    few = rw same (let long = length-set slots place (Some world') in omega (arith, long, few));
  }

-- a name without a place is that of no group
pub none_found : {E : Type 0} (winner : E → List ℕ → ℕ) (name : List ℕ) (object : Object E) → IsKept winner object → place_of name object ≡ None → (o : Option (GroupView E)) → find name object ≡ o → o ≡ None
none_found winner name object keeps none None found = refl
none_found winner name object keeps none (Some group) found = absurd (has_place winner name object group keeps found none)

-- and a place is one of so many
pub place_few : {E : Type 0} (winner : E → List ℕ → ℕ) (name : List ℕ) (place : ℕ) (object : Object E) → IsKept winner object → place_of name object ≡ Some place → place < 256
place_few winner name place object keeps found =
    let at = at_place winner name place object found keeps in
    let entry = entry_at object place name at.here in
    let inside = slice_get_within object place (name, entry.0) entry.1 in
    let few = keeps.few in
    omega (arith, inside, few)

-- a place is one of those of the names
pub place_named : (name : List ℕ) (place : ℕ) (ns : List (List ℕ)) → IsAt name place ns → place < length ns
place_named name place ns at = slice_get_within ns place name at.here

module _ {X : Type 0} (place : ℕ) (slots grown : List (Option X)) (growth : HasGrown place slots grown) where
  -- places that are new aren't seen
  pub growth_seen : (ns : List (List ℕ)) → placed ns grown ≡ placed ns slots
  growth_seen ns = ap (placed ns) growth.items ∙ grown_seen ns slots growth.more

  -- a world that is put at a place of such a list stands under its name, and every other stays
  pub put_seen : (ns : List (List ℕ)) (name : List ℕ) (x : X) → IsAt name place ns → (other : List ℕ) →
      lookup (bytes_eq other) (placed ns (slice_set grown place (Some x))) ≡ cond (bytes_eq name other) (Some x) (lookup (bytes_eq other) (placed ns slots))
  put_seen ns name x at other = put_at name place ns grown x at growth.inside other ∙ ap (λ l. cond (bytes_eq name other) (Some x) (lookup (bytes_eq other) l)) (growth_seen ns)

module _ {E S M : Type 0} (t : E → Table S M) (fits : E → Fitting M) (winner : E → List ℕ → ℕ) (object : Object E) (slots grown : List (Option (Running E M))) (kept : IsKeptAt t fits winner object slots)
    (name : List ℕ) (place : ℕ) (at : IsAt name place (names object)) (growth : HasGrown place slots grown) where
  -- what is kept stays where the list has grown
  pub kept_grown : IsKeptAt t fits winner object grown
  kept_grown = record {
    held = rw (growth_seen place slots grown growth (names object)) kept.held;
    few = growth.within (length (names object)) kept.few (place_named name place (names object) at);
  }

  -- and after start, where the world that was made of the planned charter is put at the group's place
  pub kept_starts : (planned started : Charter E) (world : Running E M) (after : Object E) → OfGroup name (λ g. planned ≡ next_charter name g) object → InGroup name (StartsWith name started) object after →
      world ≡ begun_of planned → IsSoundWorld t fits winner world → IsKeptAt t fits winner after (slice_set grown place (Some world))
  kept_starts planned started world after plans starts made sound =
      let same = names_kept name (StartsWith name started) object after starts in
      let long_names : length (names after) ≡ length (names object) = ap length same in
      let worlds : List (List ℕ × Running E M) = placed (names object) slots in
      let worlds_after : List (List ℕ × Running E M) = placed (names after) (slice_set grown place (Some world)) in
      let seen = λ (other : List ℕ). ap (λ ns. lookup (bytes_eq other) (placed ns (slice_set grown place (Some world)))) same ∙ put_seen place slots grown growth (names object) name world at other in
      record {
        held = record {
          held = held_starts t object worlds name planned started world after worlds_after kept.held.held plans starts made seen;
          sound = sound_updated t fits winner name worlds worlds_after world kept.held.sound sound seen;
        };
        few = let long = length-set grown place (Some world) in let few = kept_grown.few in omega (arith, long, few, long_names);
      }

-- the same worlds are seen under the names of another object
pub record SeesSame {E M : Type 0} (object after : Object E) (slots : List (Option (Running E M))) : Type 0 where
  pub seen : placed (names after) slots ≡ placed (names object) slots
  pub few : length slots ≤ length (names after)

-- a group that is added last is named last
names_push : {E : Type 0} (object : Object E) (name : List ℕ) (group : GroupView E) → names (object ++ (name, group) ∷ []) ≡ names object ++ name ∷ []
names_push [] name group = refl
names_push (e ∷ object) name group = ap (λ (ns : List (List ℕ)). e.0 ∷ ns) (names_push object name group)

module _ {E M : Type 0} (object after : Object E) (slots : List (Option (Running E M))) (few : length slots ≤ length (names object)) where
  -- so it is after create, join and leave
  pub creates_sees : (name : List ℕ) (algorithm : E) → Creates name algorithm object after → SeesSame object after slots
  creates_sees name algorithm creates =
      let pushed : names after ≡ names object ++ name ∷ [] = ap names creates ∙ names_push object name (new_group algorithm) in
      record {
        seen = ap (λ ns. placed ns slots) pushed ∙ name_unseen (names object) name slots few;
        few = let long = ap length pushed in let more = length_push (names object) name in omega (arith, long, more, few);
      }

  pub group_sees : (name : List ℕ) (Does : GroupView E → GroupView E → Type 0) → InGroup name Does object after → SeesSame object after slots
  group_sees name Does inside =
      let same = names_kept name Does object after inside in
      record { seen = ap (λ ns. placed ns slots) same; few = let long = ap length same in omega (arith, long, few) }

-- what is kept stays where the same worlds are seen
pub kept_sees : {E S M : Type 0} (t : E → Table S M) (fits : E → Fitting M) (winner : E → List ℕ → ℕ) (object after : Object E) (slots : List (Option (Running E M))) → IsKeptAt t fits winner object slots →
    SeesSame object after slots → IsHeld t after (placed (names object) slots) → IsKeptAt t fits winner after slots
kept_sees t fits winner object after slots keeps sees held = record { held = rw sees.seen (record { held = held; sound = keeps.held.sound }); few = sees.few }
