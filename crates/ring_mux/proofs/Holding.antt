-- What a mux keeps: after each command the last term of each group has its world still.
use Rattle.std.proofs.Common.{◌≡◌, ◌<◌, ℕ, Bool, true, false, cond, List, [], ◌∷◌, ◌++◌, length, replicate, Option, None, Some, is_some, refl, sym, ap, subst, ◌∙◌, arith, inl, inr}
use Rattle.std.specs.Prelude.{◌⊎◌, ◌-◌, slice_get}
use Rattle.std.specs.Map.{lookup}
use Rattle.std.specs.Str.{bytes_eq}
use Rattle.std.proofs.lemmas.Bool.{cases_Bool}
use Rattle.std.proofs.lemmas.Cmp.{nat_list_eq_equiv}
use Rattle.std.proofs.lemmas.List.{get_or-replicate, get_or_push, length-replicate, length_push}
use Rattle.std.proofs.lemmas.Option.{none-some, same_Some, slice_get-get_or}
use Rattle.ring_id.specs.declared.side.Side.{Side}
use Rattle.ring_election.specs.Tables.{Table}
use Rattle.ring_node.specs.declared.charter.Charter.{Charter}
use Rattle.ring_node.specs.declared.packet.Packet.{Packet}
use Rattle.ring_node.specs.Nodes.{known_of}
use Rattle.ring_world.specs.Worlds.{Running, node_at}
use Rattle.ring_terms.specs.Charters.{next_charter, running_charter}
use Rattle.ring_terms.specs.Commands.{Creates, Joins, Leaves, StartsWith}
use Rattle.ring_terms.specs.Object.{GroupView, InGroup, Object, OfGroup, TermView, find, last_term, new_group, new_term, with_group}
use Rattle.ring_terms.proofs.Objects.{find-with_group, same_name}
use Rattle.ring_mux.specs.Journeys.{begun_of}
use Rattle.ring_mux.specs.Views.{IsHeld, IsWorldOf, world_in}
use Rattle.ring_mux.specs.WorldSteps.{BeginsWorld}

-- what a look-up finds after an entry was added last: what it found before, or that entry
lookup-push : {K X : Type 0} (test : K → Bool) (es : List (K × X)) (k : K) (v w : X) → lookup test (es ++ (k, v) ∷ []) ≡ Some w → (lookup test es ≡ Some w) ⊎ (v ≡ w)
lookup-push test [] k v w =
    elim (test k) as (λ b. cond b (Some v) None ≡ Some w → (None ≡ Some w) ⊎ (v ≡ w)) [ true ↦ λ h. inr (same_Some v w h) | false ↦ λ h. inl h ]
lookup-push test (e ∷ es) k v w =
    elim (test e.0) as (λ b. cond b (Some e.1) (lookup test (es ++ (k, v) ∷ [])) ≡ Some w → (cond b (Some e.1) (lookup test es) ≡ Some w) ⊎ (v ≡ w)) [
      | true ↦ λ h. inl h
      | false ↦ λ h. lookup-push test es k v w h
    ]

module _ {E S M : Type 0} (t : E → Table S M) where
  -- the world of a term stays its world where the worlds have the same under that name
  pub world_elsewhere : (name : List ℕ) (group : GroupView E) (term : TermView) (worlds after : List (List ℕ × Running E M)) → world_in name after ≡ world_in name worlds →
      IsWorldOf t name group term worlds → IsWorldOf t name group term after
  world_elsewhere name group term worlds after same of = record { world = of.world; found = same ∙ of.found; charter = of.charter; marks = of.marks }

  -- After a group and its world changed, and no other: the last term of each group has its world
  -- where that group's has.
  pub held_with_group : (object : Object E) (worlds : List (List ℕ × Running E M)) (name : List ℕ) (before changed : GroupView E) (after : List (List ℕ × Running E M)) →
      IsHeld t object worlds → find name object ≡ Some before →
      ((term : TermView) → last_term changed ≡ Some term → IsWorldOf t name changed term after) →
      ((other : List ℕ) → bytes_eq name other ≡ false → world_in other after ≡ world_in other worlds) →
      IsHeld t (with_group name changed object) after
  held_with_group object worlds name before changed after held found here elsewhere = record {
    each = λ other group term is last.
        let seen : cond (bytes_eq name other) (Some changed) (find other object) ≡ Some group = sym (find-with_group name before changed object found other) ∙ is in
        elim (cases_Bool (bytes_eq name other)) [
          | inl same ↦
              let it : changed ≡ group = same_Some changed group (sym (ap (λ b. cond b (Some changed) (find other object)) same) ∙ seen) in
              subst (λ n. IsWorldOf t n group term after) (same_name name other same)
              (subst (λ v. IsWorldOf t name v term after) it (here term (ap last_term it ∙ last)))
          | inr differ ↦
              let it : find other object ≡ Some group = sym (ap (λ b. cond b (Some changed) (find other object)) differ) ∙ seen in
              world_elsewhere other group term worlds after (elsewhere other differ) (held.each other group term it last)
        ];
  }

  -- with another member list a group keeps its terms, and so its world
  world_with_members : (name : List ℕ) (group : GroupView E) (members : List ℕ) (term : TermView) (worlds : List (List ℕ × Running E M)) → IsWorldOf t name group term worlds →
      IsWorldOf t name (record group { members = members }) term worlds
  world_with_members name group members term worlds of = record { world = of.world; found = of.found; charter = of.charter; marks = of.marks }

  -- and a mux whose group has another member list is held
  held_with_members : (object : Object E) (worlds : List (List ℕ × Running E M)) (name : List ℕ) (before : GroupView E) (members : List ℕ) → IsHeld t object worlds → find name object ≡ Some before →
      IsHeld t (with_group name (record before { members = members }) object) worlds
  held_with_members object worlds name before members held found =
      held_with_group object worlds name before (record before { members = members }) worlds held found
      (λ term last. world_with_members name before members term worlds (held.each name before term found last))
      (λ other differ. refl)

  -- after create: the new group has no term
  pub held_creates : (object : Object E) (worlds : List (List ℕ × Running E M)) (name : List ℕ) (algorithm : E) (after : Object E) → IsHeld t object worlds → Creates name algorithm object after →
      IsHeld t after worlds
  held_creates object worlds name algorithm after held creates =
      subst (λ o. IsHeld t o worlds) (sym creates) (record {
        each = λ other group term is last.
            elim (lookup-push (bytes_eq other) object name (new_group algorithm) group is) [
              | inl before ↦ held.each other group term before last
              | inr new ↦ absurd (none-some term (ap last_term new ∙ last))
            ];
      })

  -- after join
  pub held_joins : (object : Object E) (worlds : List (List ℕ × Running E M)) (name : List ℕ) (node : ℕ) (after : Object E) → IsHeld t object worlds → InGroup name (Joins node) object after → IsHeld t after worlds
  held_joins object worlds name node after held joins =
      subst (λ o. IsHeld t o worlds) (sym (joins.rest ∙ ap (λ g. with_group name g object) joins.does))
      (held_with_members object worlds name joins.before _ held joins.found)

  -- after leave
  pub held_leaves : (object : Object E) (worlds : List (List ℕ × Running E M)) (name : List ℕ) (node : ℕ) (after : Object E) → IsHeld t object worlds → InGroup name (Leaves node) object after → IsHeld t after worlds
  held_leaves object worlds name node after held leaves =
      subst (λ o. IsHeld t o worlds) (sym (leaves.rest ∙ ap (λ g. with_group name g object) leaves.does))
      (held_with_members object worlds name leaves.before _ held leaves.found)

-- the last term of a group that has just started one
last_term-push : {E : Type 0} (group : GroupView E) (term : TermView) → last_term (record group { terms = group.terms ++ term ∷ [] }) ≡ Some term
last_term-push group term =
    let long = length_push group.terms term in
    let at : length (group.terms ++ term ∷ []) - 1 ≡ length group.terms = omega (arith, long) in
    ap (slice_get (group.terms ++ term ∷ [])) at
    ∙ slice_get-get_or (group.terms ++ term ∷ []) (length group.terms) term (omega (arith, long))
    ∙ ap Some (get_or_push group.terms term term (length group.terms) refl)

-- in it nobody knows a leader
known_of-begun : {E S M : Type 0} (t : E → Table S M) (charter : Charter E) (i : ℕ) → i < length charter.roster → known_of t (node_at (begun_of charter) i) ≡ None
known_of-begun {M = M} t charter i below =
    let empty : List (Side × Packet M) = [] in
    ap (λ (journal : List (Side × Packet M)). known_of t (record { charter = charter; position = i; journal = journal })) (get_or-replicate (length charter.roster) i empty empty below)

-- and nobody is informed in a new term
new_mark : (ring : List ℕ) (i : ℕ) → i < length ring → slice_get (replicate (length ring) false) i ≡ Some false
new_mark ring i below =
    slice_get-get_or (replicate (length ring) false) i false (omega (arith, length-replicate (length ring) false))
    ∙ ap Some (get_or-replicate (length ring) i false false below)

-- a group with one term more, on the ring of its members
abbrev started_of : {E : Type 0} → GroupView E → GroupView E
started_of group = record group { terms = group.terms ++ new_term group.members ∷ [] }

module _ {E S M : Type 0} (t : E → Table S M) where
  -- the world of a term that has just started: nothing was delivered there
  world_started : (name : List ℕ) (before : GroupView E) (worlds : List (List ℕ × Running E M)) → world_in name worlds ≡ Some (begun_of (next_charter name before)) →
      (term : TermView) → last_term (started_of before) ≡ Some term → IsWorldOf t name (started_of before) term worlds
  world_started name before worlds found term last =
      let new : TermView = new_term before.members in
      let it : new ≡ term = same_Some new term (sym (last_term-push before new) ∙ last) in
      subst (λ x. IsWorldOf t name (started_of before) x worlds) it (record {
        world = begun_of (next_charter name before);
        found = found;
        charter = rw (last_term-push before new, length_push before.terms new) refl;
        marks = λ i below. new_mark before.members i below ∙ ap (λ (o : Option ℕ). Some (is_some o)) (sym (known_of-begun t (next_charter name before) i below));
      })

  -- after start, where the world that was made of the planned charter stands under the group's name,
  -- and the others stay
  pub held_starts : (object : Object E) (worlds : List (List ℕ × Running E M)) (name : List ℕ) (planned started : Charter E) (world : Running E M) (after : Object E) (worlds_after : List (List ℕ × Running E M)) →
      IsHeld t object worlds → OfGroup name (λ g. planned ≡ next_charter name g) object → InGroup name (StartsWith name started) object after →
      world ≡ begun_of planned → ((other : List ℕ) → world_in other worlds_after ≡ cond (bytes_eq name other) (Some world) (world_in other worlds)) → IsHeld t after worlds_after
  held_starts object worlds name planned started world after worlds_after held plans starts made updates =
      let one : plans.group ≡ starts.before = same_Some plans.group starts.before (sym plans.found ∙ starts.found) in
      let begun : world ≡ begun_of (next_charter name starts.before) = made ∙ ap (begun_of {E = E} {M = M}) (plans.says ∙ ap (next_charter name) one) in
      let here = updates name ∙ ap (λ b. cond b (Some world) (world_in name worlds)) (nat_list_eq_equiv.refl name) ∙ ap Some begun in
      let elsewhere = λ (other : List ℕ) (differ : bytes_eq name other ≡ false). updates other ∙ ap (λ b. cond b (Some world) (world_in other worlds)) differ in
      subst (λ o. IsHeld t o worlds_after) (sym (starts.rest ∙ ap (λ g. with_group name g object) starts.does.starts.started))
      (held_with_group t object worlds name starts.before (started_of starts.before) worlds_after held starts.found (world_started name starts.before worlds_after here) elsewhere)

-- a group that has started a term runs it
running_started : {E : Type 0} (name : List ℕ) (charter : Charter E) (old new : Object E) → InGroup name (StartsWith name charter) old new → OfGroup name (λ g. running_charter name g ≡ Some charter) new
running_started name charter old new starts =
    let term : TermView = new_term starts.before.members in
    let found : find name (with_group name starts.after old) ≡ Some starts.after =
    find-with_group name starts.before starts.after old starts.found name ∙ ap (λ b. cond b (Some starts.after) (find name old)) (nat_list_eq_equiv.refl name) in
    let running : running_charter name (started_of starts.before) ≡ Some (next_charter name starts.before) = rw (last_term-push starts.before term, length_push starts.before.terms term) refl in
    record {
      group = starts.after;
      found = ap (find name) starts.rest ∙ found;
      says = ap (running_charter name) starts.does.starts.started ∙ running ∙ ap Some (sym starts.does.chartered);
    }

-- and its world has seen no delivery
pub begins : {E M : Type 0} (object : Object E) (worlds : List (List ℕ × Running E M)) (name : List ℕ) (planned started : Charter E) (world : Running E M) (after : Object E) (worlds_after : List (List ℕ × Running E M)) →
    OfGroup name (λ g. planned ≡ next_charter name g) object → InGroup name (StartsWith name started) object after →
    world ≡ begun_of planned → ((other : List ℕ) → world_in other worlds_after ≡ cond (bytes_eq name other) (Some world) (world_in other worlds)) →
    BeginsWorld name (record { object = object; worlds = worlds }) (record { object = after; worlds = worlds_after })
begins {E} {M} object worlds name planned started world after worlds_after plans starts made updates =
    let one : plans.group ≡ starts.before = same_Some plans.group starts.before (sym plans.found ∙ starts.found) in
    let same : planned ≡ started = plans.says ∙ ap (next_charter name) one ∙ sym starts.does.chartered in
    let begun : world ≡ begun_of started = made ∙ ap (begun_of {E = E} {M = M}) same in
    record {
      charter = started;
      started = running_started name started object after starts;
      worlds = λ other. updates other ∙ ap (λ (w : Running E M). cond (bytes_eq name other) (Some w) (world_in other worlds)) begun;
    }
