-- A delivery in a group's world keeps what a mux keeps: a member is informed exactly where its node
-- knows, and the object moves by a step.
use Rattle.std.proofs.Common.{◌≡◌, ◌≢◌, ◌-◌, ◌<◌, ℕ, get_or, Bool, true, false, cond, List, length, Option, Some, None, is_some, option_map, slice_get, refl, sym, ap, ◌∙◌, inl, inr}
use Rattle.std.specs.Map.{lookup, set_value}
use Rattle.std.specs.Str.{bytes_eq}
use Rattle.std.proofs.lemmas.Cmp.{nat_list_eq_equiv}
use Rattle.std.proofs.lemmas.Map.{lookup-set_value}
use Rattle.std.proofs.Math.ListN.{length-set}
use Rattle.std.proofs.lemmas.Option.{slice_get-get_or, slice_get_within}
use Rattle.std.proofs.lemmas.Slice.Eq.{bytes_eq-Decides}
use Rattle.ring_id.specs.declared.side.Side.{Side}
use Rattle.ring_id.specs.Identity.{number_of}
use Rattle.ring_roster.specs.Ring.{IsRing, position_of}
use Rattle.ring_election.specs.Tables.{Table}
use Rattle.ring_node.specs.declared.charter.Charter.{Charter}
use Rattle.ring_node.specs.declared.packet.Packet.{Packet}
use Rattle.ring_node.specs.Journals.{kept_or, news}
use Rattle.ring_node.specs.Nodes.{Seated, known_of, member_of, told_of}
use Rattle.ring_node.specs.Reports.{Told}
use Rattle.ring_node.proofs.Receipts.{known_after-snoc}
use Rattle.ring_world.specs.Worlds.{Running, after_receipt, node_at, size_of}
use Rattle.ring_world.proofs.Deliveries.{others_after, receiver_after}
use Rattle.ring_world.proofs.Links.{same_or_not}
use Rattle.ring_terms.specs.Object.{GroupView, InGroup, Object, TermView, find, last_term, with_group, with_last}
use Rattle.ring_terms.specs.Charters.{running_charter}
use Rattle.ring_terms.specs.Moves.{Informs, LeadsAfter, inform}
use Rattle.ring_terms.specs.Notes.{NotesOf}
use Rattle.ring_terms.specs.declared.standing.Noting.{Noting}
use Rattle.ring_terms.specs.declared.standing.Noting.TheVariants.{Noted, Known, Stale}
use Rattle.ring_terms.proofs.Members.{position_is, position_of-at}
use Rattle.ring_terms.specs.Steps.{MovesOf}
use Rattle.ring_terms.proofs.Objects.{last_written, set_elsewhere, set_here}
use Rattle.ring_mux.specs.Views.{IsHeld, IsWorldOf, world_in}
use Rattle.ring_mux.specs.private.Views.{IsSeat}
use Rattle.ring_mux.specs.Journeys.{with_world}

-- names that are equal as bytes are one name
one_name : (name other : List ℕ) → bytes_eq name other ≡ true → name ≡ other
one_name name other same = (bytes_eq-Decides name other).0 same

-- a name is equal to itself
name_itself : (name : List ℕ) → bytes_eq name name ≡ true
name_itself name = (bytes_eq-Decides name name).1 refl

-- what stands under a name once something was written under another name, or under it
pub looked_up : {X : Type 0} (name other : List ℕ) (es : List (List ℕ × X)) (v w : X) → lookup (bytes_eq name) es ≡ Some v
    → lookup (bytes_eq other) (set_value (bytes_eq name) es w) ≡ cond (bytes_eq name other) (Some w) (lookup (bytes_eq other) es)
looked_up name other es v w found =
    lookup-set_value nat_list_eq_equiv (bytes_eq name) (λ x y tx. rw (one_name name x tx) refl) other w es (rw found refl)

-- the written value is found
pub written_found : {X : Type 0} (name : List ℕ) (es : List (List ℕ × X)) (v w : X) → lookup (bytes_eq name) es ≡ Some v → lookup (bytes_eq name) (set_value (bytes_eq name) es w) ≡ Some w
written_found {X} name es v w found = looked_up name name es v w found ∙ ap (λ (b : Bool). cond b (Some w) (lookup (bytes_eq name) es)) (name_itself name)

-- others stay
pub others_found : {X : Type 0} (name other : List ℕ) (es : List (List ℕ × X)) (v w : X) → lookup (bytes_eq name) es ≡ Some v → bytes_eq name other ≡ false
    → lookup (bytes_eq other) (set_value (bytes_eq name) es w) ≡ lookup (bytes_eq other) es
others_found name other es v w found differ = looked_up name other es v w found ∙ ap (λ (b : Bool). cond b (Some w) (lookup (bytes_eq other) es)) differ

-- the ring of a running charter is the last term's
pub running_ring : {E : Type 0} (name : List ℕ) (group : GroupView E) (term : TermView) (charter : Charter E) → last_term group ≡ Some term → running_charter name group ≡ Some charter
    → charter ≡ record { group = name; term = length group.terms; algorithm = group.algorithm; roster = term.ring }
running_ring name group term charter last running =
    let whole = rw last at running in
    let same : record { group = name; term = length group.terms; algorithm = group.algorithm; roster = term.ring } ≡ charter = cc in
    sym same

-- the same look-up finds the same
pub same_found : {X : Type 0} (o : Option X) (a b : X) → o ≡ Some a → o ≡ Some b → a ≡ b
same_found o a b x y = let both : Some a ≡ Some b = sym x ∙ y in cc

option_map-none : {A B : Type 0} (f : A → B) (o : Option A) → option_map f o ≡ None → o ≡ None
option_map-none f None h = refl
option_map-none f (Some a) h = cc

pub option_map-some : {A B : Type 0} (f : A → B) (o : Option A) (b : B) → option_map f o ≡ Some b → (a : A) × (o ≡ Some a) × (f a ≡ b)
option_map-some f None b h = cc
option_map-some f (Some a) b h = let same : f a ≡ b = cc in (a, refl, same)

-- where nothing is news, what was known stays known
silent_plain : {R : Type 0} (f : ℕ → R) (known coming after : Option ℕ) → after ≡ kept_or known coming → option_map f (news known after) ≡ None → is_some after ≡ is_some known
silent_plain f None coming after e h = ap is_some (option_map-none f after h)
silent_plain f (Some w) coming after e h = ap is_some e

-- news comes where nothing was known
told_plain : {R : Type 0} (f : ℕ → R) (known after : Option ℕ) (report : R) → option_map f (news known after) ≡ Some report → (known ≡ None) × ((v : ℕ) × (after ≡ Some v) × (f v ≡ report))
told_plain f None after report h = (refl, option_map-some f after report h)
told_plain f (Some w) after report h = cc

module _ {E S M : Type 0} (t : E → Table S M) (world : Running E M) (i : ℕ) (within : i < length world.journals) (side : Side) (p : Packet M) where
  -- what the receiver of a packet knows afterwards
  known_grows : (coming : Option ℕ) × (known_of t (node_at (after_receipt world i side p) i) ≡ kept_or (known_of t (node_at world i)) coming)
  known_grows = (
    _,
    ap (known_of t) (receiver_after t world i within side p)
        ∙ known_after-snoc (t world.charter.algorithm) (member_of (node_at world i)) ((node_at world i).journal) side p,
  )

  -- where the receipt tells nothing, each node knows or doesn't as before
  pub silent_knows : told_of t (node_at world i) (node_at (after_receipt world i side p) i) ≡ None
      → (j : ℕ) → is_some (known_of t (node_at (after_receipt world i side p) j)) ≡ is_some (known_of t (node_at world j))
  silent_knows silent j =
      let grows = known_grows in
      elim (same_or_not j i) [
        | inl here ↦ rw here (silent_plain _ (known_of t (node_at world i)) (grows.0) (known_of t (node_at (after_receipt world i side p) i)) (grows.1) silent)
        | inr differ ↦ ap (λ (n : Seated E M). is_some (known_of t n)) (others_after t world i within side p j differ)
      ]

  -- where it tells something, the receiver knew nothing and now knows the leader that is told
  pub told_knows : (report : Told E) → told_of t (node_at world i) (node_at (after_receipt world i side p) i) ≡ Some report
      → (is_some (known_of t (node_at world i)) ≡ false)
      × (is_some (known_of t (node_at (after_receipt world i side p) i)) ≡ true)
      × (report.charter ≡ world.charter)
      × (report.member ≡ member_of (node_at world i))
  told_knows report told =
      let plain = told_plain _ (known_of t (node_at world i)) (known_of t (node_at (after_receipt world i side p) i)) report told in
      let some = plain.1 in
      (ap is_some (plain.0), ap is_some (some.1), ap (λ (r : Told E). r.charter) (sym (some.2)), ap (λ (r : Told E). r.member) (sym (some.2)))

  -- and the others know or don't as before
  pub others_know : (j : ℕ) → j ≢ i → is_some (known_of t (node_at (after_receipt world i side p) j)) ≡ is_some (known_of t (node_at world j))
  others_know j differ = ap (λ (n : Seated E M). is_some (known_of t n)) (others_after t world i within side p j differ)

-- the world that a term has, found once more
module _ {E S M : Type 0} (t : E → Table S M) (object : Object E) (worlds : List (List ℕ × Running E M)) (held : IsHeld t object worlds) (name : List ℕ) (world : Running E M) (found : world_in name worlds ≡ Some world) where
  -- what is kept of the world under this name
  pub world_of : (group : GroupView E) (term : TermView) → find name object ≡ Some group → last_term group ≡ Some term
      → (world.charter ≡ record { group = name; term = length group.terms; algorithm = group.algorithm; roster = term.ring })
      × (running_charter name group ≡ Some world.charter)
      × ((i : ℕ) → i < length term.ring → slice_get term.informed i ≡ Some (is_some (known_of t (node_at world i))))
  world_of group term at last =
      let kept = held.each name group term at last in
      let same = same_found (world_in name worlds) kept.world world kept.found found in
      let charter = rw same at kept.charter in
      (running_ring name group term world.charter last charter, charter, rw same at kept.marks)

  -- the position of a seat is on the ring of the world
  pub seat_inside : (i : ℕ) → IsSeat name i object → i < size_of world
  seat_inside i seat =
      let of = world_of seat.group seat.says.term seat.found seat.says.found in
      rw (of.0) (seat.says.says)

  -- the term that this world's name has keeps a world that differs in nothing that is marked
  silent_here : (after : Running E M) → after.charter ≡ world.charter → ((j : ℕ) → is_some (known_of t (node_at after j)) ≡ is_some (known_of t (node_at world j)))
      → (group : GroupView E) (term : TermView) → find name object ≡ Some group → last_term group ≡ Some term → IsWorldOf t name group term (with_world name after worlds)
  silent_here after charter knows group term at last =
      let of = world_of group term at last in
      record {
        world = after;
        found = written_found name worlds world after found;
        charter = of.1 ∙ ap (λ (c : Charter E). Some c) (sym charter);
        marks = λ j below. (of.2) j below ∙ ap (λ (b : Bool). Some b) (sym (knows j));
      }

  -- a world that differs in nothing that is marked may stand in its place
  pub held_silent : (after : Running E M) → after.charter ≡ world.charter → ((j : ℕ) → is_some (known_of t (node_at after j)) ≡ is_some (known_of t (node_at world j)))
      → IsHeld t object (with_world name after worlds)
  held_silent after charter knows = record {
    each = λ other group term at last.
        elim (bytes_eq name other) as (λ b. bytes_eq name other ≡ b → IsWorldOf t other group term (with_world name after worlds)) [
          | true ↦ λ same.
              let one = one_name name other same in
              rw (← one) (silent_here after charter knows group term (rw (← one) at at) last)
          | false ↦ λ differ.
              let kept = held.each other group term at last in
              record { world = kept.world; found = others_found name other worlds world after found differ ∙ kept.found; charter = kept.charter; marks = kept.marks }
        ] refl;
  }

  -- a group's last term and its world may change together, where the marks are what the nodes know
  pub held_changed : (group group' : GroupView E) (term' : TermView) (after : Running E M) → find name object ≡ Some group
      → last_term group' ≡ Some term' → running_charter name group' ≡ Some after.charter
      → ((j : ℕ) → j < length term'.ring → slice_get term'.informed j ≡ Some (is_some (known_of t (node_at after j))))
      → IsHeld t (with_group name group' object) (with_world name after worlds)
  held_changed group group' term' after at last' charter marks = record {
    each = λ other g term at' last.
        elim (bytes_eq name other) as (λ b. bytes_eq name other ≡ b → IsWorldOf t other g term (with_world name after worlds)) [
          | true ↦ λ same.
              let one = one_name name other same in
              let here = rw (← one) at at' in
              let group_is = same_found (find name (with_group name group' object)) group' g (written_found name object group group' at) here in
              let last_is = rw (← group_is) at last in
              let term_is = same_found (last_term group') term' term last' last_is in
              rw (← one, ← group_is, ← term_is) (record { world = after; found = written_found name worlds world after found; charter = charter; marks = marks })
          | false ↦ λ differ.
              let kept = held.each other g term (sym (others_found name other object group group' at differ) ∙ at') last in
              record { world = kept.world; found = others_found name other worlds world after found differ ∙ kept.found; charter = kept.charter; marks = kept.marks }
        ] refl;
  }

module _ {E S M : Type 0} (t : E → Table S M) (object : Object E) (worlds : List (List ℕ × Running E M)) (held : IsHeld t object worlds) (name : List ℕ) (world : Running E M) (found : world_in name worlds ≡ Some world)
    (i : ℕ) (within : i < length world.journals) (side : Side) (p : Packet M) (group : GroupView E) (term : TermView) (at : find name object ≡ Some group) (last : last_term group ≡ Some term) (below : i < length term.ring) where
  -- it keeps what is kept, if the receiver now knows a leader
  pub held_informed : (leader : ℕ) → slice_get term.informed i ≡ Some false → is_some (known_of t (node_at (after_receipt world i side p) i)) ≡ true
      → IsHeld t (with_group name (with_last (inform i leader term) group) object) (with_world name (after_receipt world i side p) worlds)
  held_informed leader unmarked knows =
      let of = world_of t object worlds held name world found group term at last in
      let group' : GroupView E = with_last (inform i leader term) group in
      let last' : last_term group' ≡ Some (inform i leader term) = last_written group.terms term (inform i leader term) last in
      let charter' : running_charter name group' ≡ Some world.charter =
      ap (option_map (λ (t : TermView). record { group = name; term = length group'.terms; algorithm = group.algorithm; roster = t.ring })) last'
      ∙ ap (λ (n : ℕ). Some (record { group = name; term = n; algorithm = group.algorithm; roster = term.ring })) (length-set group.terms (length group.terms - 1) (inform i leader term))
      ∙ ap (λ (c : Charter E). Some c) (sym (of.0)) in
      held_changed t object worlds held name world found group group' (inform i leader term) (after_receipt world i side p) at last' charter'
      (λ j inside.
      elim (same_or_not j i) [
        | inl here ↦ rw (here, knows) (set_here term.informed i true (slice_get_within term.informed i false unmarked))
        | inr differ ↦ set_elsewhere term.informed i j true differ ∙ (of.2) j inside ∙ ap (λ (b : Bool). Some b) (sym (others_know t world i within side p j differ))
      ])

  -- what is known of the group and its world
  here_of : (world.charter ≡ record { group = name; term = length group.terms; algorithm = group.algorithm; roster = term.ring })
      × (running_charter name group ≡ Some world.charter)
      × ((j : ℕ) → j < length term.ring → slice_get term.informed j ≡ Some (is_some (known_of t (node_at world j))))
  here_of = world_of t object worlds held name world found group term at last

  module _ (is_ring : IsRing world.charter.roster) (report : Told E) (told : told_of t (node_at world i) (node_at (after_receipt world i side p) i) ≡ Some report) where
    -- the member that reports stands at the receiver's position
    reporter_at : (k : ℕ) → position_of (number_of report.member) term.ring ≡ Some k → k ≡ i
    reporter_at k placed =
        let ring : IsRing term.ring = rw (here_of.0) at is_ring in
        let knows = told_knows t world i within side p report told in
        let member : report.member ≡ get_or term.ring i 0 = knows.3 ∙ ap (λ (c : Charter E). get_or c.roster i 0) (here_of.0) in
        position_is term.ring i report.member k ring.distinct (slice_get-get_or term.ring i 0 below ∙ ap (λ (n : ℕ). Some n) (sym member)) placed

    -- it was not informed
    reporter_unmarked : slice_get term.informed i ≡ Some false
    reporter_unmarked = (here_of.2) i below ∙ ap (λ (b : Bool). Some b) ((told_knows t world i within side p report told).0)

    -- its charter is the running one
    reporter_runs : running_charter name group ≡ Some report.charter
    reporter_runs = here_of.1 ∙ ap (λ (c : Charter E). Some c) (sym ((told_knows t world i within side p report told).2))

    -- the group after its note
    noted_group : (greatest : Bool) (before after : GroupView E) → before ≡ group → Informs greatest (number_of report.member) report.leader before after → after ≡ with_last (inform i report.leader term) group
    noted_group greatest before after same informs =
        let last_is : informs.before ≡ term = same_found (last_term group) informs.before term (rw same at informs.found) last in
        let place : informs.does.position ≡ i = reporter_at informs.does.position (rw last_is at informs.does.placed) in
        informs.rest
        ∙ ap (λ (x : TermView). with_last x before) informs.does.changed
        ∙ ap (λ (q : ℕ). with_last (inform q report.leader informs.before) before) place
        ∙ ap (λ (x : TermView). with_last (inform i report.leader x) before) last_is
        ∙ ap (λ (g : GroupView E). with_last (inform i report.leader term) g) same

    -- and the leader that is named
    noted_leads : (greatest : Bool) (before after : GroupView E) → before ≡ group → Informs greatest (number_of report.member) report.leader before after → LeadsAfter greatest term.ring term.leader report.leader
    noted_leads greatest before after same informs =
        let last_is : informs.before ≡ term = same_found (last_term group) informs.before term (rw same at informs.found) last in
        rw last_is at informs.does.leads

    -- What the note of a told receipt does: the member was not informed, and now is.
    pub noted : (greatest : E → Bool) (noting : Noting) (object' : Object E) → NotesOf greatest name report object noting object'
        → IsHeld t object' (with_world name (after_receipt world i side p) worlds)
        × ((node : ℕ) → position_of node world.charter.roster ≡ Some i → InGroup name (MovesOf greatest node) object object')
        × (noting ≡ Noted)
    noted greatest Noted object' notes =
        let moves = notes.1 in
        let same : moves.before ≡ group = same_found (find name object) moves.before group moves.found at in
        let after_is = noted_group (greatest report.charter.algorithm) moves.before moves.after same moves.does in
        let algorithm : report.charter.algorithm ≡ group.algorithm =
        ap (λ (c : Charter E). c.algorithm) ((told_knows t world i within side p report told).2 ∙ here_of.0) in
        let leads = rw algorithm at (noted_leads (greatest report.charter.algorithm) moves.before moves.after same moves.does) in
        let object_is : object' ≡ with_group name (with_last (inform i report.leader term) group) object = moves.rest ∙ ap (λ (g : GroupView E). with_group name g object) after_is in (
          rw object_is (held_informed report.leader reporter_unmarked ((told_knows t world i within side p report told).1)),
          λ node placed. record {
            before = group;
            after = with_last (inform i report.leader term) group;
            found = at;
            does = inr (
              report.leader,
              record {
                before = term;
                after = inform i report.leader term;
                found = last;
                does = record { position = i; placed = rw (here_of.0) at placed; uninformed = reporter_unmarked; leads = leads; changed = refl };
                rest = refl;
              },
            );
            rest = object_is;
          },
          refl,
        )
    noted greatest Known object' notes =
        let of = notes.2 in
        let same : of.group ≡ group = same_found (find name object) of.group group of.found at in
        let last_is : of.says.term ≡ term = same_found (last_term group) of.says.term term (rw same at of.says.found) last in
        let place : of.says.says.position ≡ i = reporter_at of.says.says.position (rw last_is at of.says.says.placed) in
        let marked : slice_get term.informed i ≡ Some true = rw (last_is, place) at of.says.says.informed in
        let both : Some false ≡ Some true = sym reporter_unmarked ∙ marked in
        cc
    noted greatest Stale object' notes = absurd ((notes.0) (rw at reporter_runs))

-- a member stands at its own position
pub position_here : (ring : List ℕ) (i : ℕ) → IsRing ring → i < length ring → position_of (number_of (get_or ring i 0)) ring ≡ Some i
position_here ring i is_ring below = position_of-at ring i (get_or ring i 0) is_ring.distinct (slice_get-get_or ring i 0 below)
