-- A world that stands at its group's place: its charter is that of the group's last term, what a passage there
-- tells, and that it stands there after a delivery.
use Rattle.std.proofs.Common.{◌≡◌, ◌<◌, ℕ, Bool, List, get_or, position, Option, Some, None, option_map, slice_index, sym, ap, subst, ◌∙◌}
use Rattle.std.specs.Str.{bytes_eq}
use Rattle.ring_id.specs.declared.side.Side.{Side}
use Rattle.ring_id.specs.Identity.{number_of}
use Rattle.ring_roster.specs.Ring.{IsRing}
use Rattle.ring_election.specs.Tables.{Table}
use Rattle.ring_election.specs.Families.{Fitting}
use Rattle.ring_node.specs.declared.charter.Charter.{Charter}
use Rattle.ring_node.specs.Journals.{news}
use Rattle.ring_node.specs.Nodes.{known_of}
use Rattle.ring_node.specs.Reports.{Told}
use Rattle.ring_world.specs.Worlds.{HasMoved, HasPassed, IsFirstLink, IsSoundWorld, Running, node_at, size_of}
use Rattle.ring_terms.specs.Charters.{running_in}
use Rattle.ring_terms.specs.Object.{Object, place_of}
use Rattle.ring_mux.specs.Journeys.{with_world}
use Rattle.ring_mux.specs.Views.{world_in}
use Rattle.ring_mux.specs.private.Views.{StandsAt}
use Rattle.ring_mux.proofs.Carrying.{position_here, same_found, world_of, written_found}
use Rattle.ring_mux.proofs.Drains.{HasCarriedAmong, kept_world, seat_ready, still_runs, the_term}

-- news is known afterwards
news_known : (known after : Option ℕ) (v : ℕ) → news known after ≡ Some v → after ≡ Some v
news_known None after v h = h
news_known (Some w) after v h = cc

-- the report of the member at a position of a charter's ring that it knows this leader
abbrev pub told_at : {E : Type 0} → Charter E → ℕ → ℕ → Told E
told_at charter i leader = record { charter = charter; member = slice_index charter.roster i; leader = leader }

module _ {E S M : Type 0} (t : E → Table S M) (old new : Running E M) (i : ℕ) (side : Side) (leader : Option ℕ) (passed : HasPassed t old i side leader new) where
  -- a passage is a delivery whose report tells what is news
  pub passed_moves : HasMoved t old i side (option_map (told_at old.charter i) leader) new
  passed_moves = record {
    packet = passed.packet;
    rest = passed.rest;
    front = passed.front;
    journals = passed.journals;
    report_is = ap (option_map (told_at old.charter i)) passed.leader_is;
  }

  -- the charter stays
  pub passed_charter : new.charter ≡ old.charter
  passed_charter = ap (λ (w : Running E M). w.charter) passed.journals

  -- and a leader that is news is the winner
  pub passed_wins : (fits : E → Fitting M) (winner : E → List ℕ → ℕ) → IsSoundWorld t fits winner new → i < size_of new → (v : ℕ) → leader ≡ Some v → v ≡ winner new.charter.algorithm new.charter.roster
  passed_wins fits winner sound inside v is =
      (sound.faithful i inside).knows v (news_known (known_of t (node_at old i)) (known_of t (node_at new i)) v (sym passed.leader_is ∙ is))

module _ {E S M : Type 0} (t : E → Table S M) (fits : E → Fitting M) (winner : E → List ℕ → ℕ) (place : ℕ) (object : Object E) (world : Running E M) (stands : StandsAt t fits winner place object world) where
  -- the name of the group is that of the charter
  charter_named : world.charter.group ≡ stands.name
  charter_named =
      let term = the_term t object stands.worlds stands.kept.held stands.name stands.runs in
      ap (λ (c : Charter E). c.group) ((world_of t object stands.worlds stands.kept.held stands.name world stands.found stands.runs.group term.0 stands.runs.found term.1).0)

  -- its place is where the world stands
  pub charter_placed : place_of world.charter.group object ≡ Some place
  charter_placed = rw charter_named stands.placed

  -- and its last term is of the charter
  pub charter_runs : running_in world.charter.group object ≡ Some world.charter
  charter_runs =
      let term = the_term t object stands.worlds stands.kept.held stands.name stands.runs in
      let runs = (world_of t object stands.worlds stands.kept.held stands.name world stands.found stands.runs.group term.0 stands.runs.found term.1).1 in
      subst (λ n. running_in n object ≡ Some world.charter) (sym charter_named) (rw stands.runs.found runs)

  -- after a delivery at the link that is ready the world stands there still
  pub stands_after : (greatest : E → Bool) (i : ℕ) (side : Side) (object' : Object E) (world' : Running E M) → IsFirstLink t world i side → IsRing world.charter.roster →
      HasCarriedAmong t fits winner greatest i side object world object' world' → StandsAt t fits winner place object' world'
  stands_after greatest i side object' world' ready ring carries =
      let here = kept_world t object stands.worlds stands.kept.held stands.name stands.runs world stands.found in
      let seat = seat_ready t object stands.worlds stands.kept.held stands.name stands.runs i side (rw here ready) in
      let carried = carries stands.name stands.worlds stands.kept stands.found seat in
      let moved = carried.0 in
      let same : moved.before ≡ world = same_found (world_in stands.name stands.worlds) moved.before world moved.found stands.found in
      let node : ℕ = number_of (get_or world.charter.roster i 0) in
      record {
        name = stands.name;
        worlds = with_world stands.name world' stands.worlds;
        kept = carried.1;
        found = written_found stands.name stands.worlds world world' stands.found;
        runs = still_runs greatest stands.name node object object' stands.runs (moved.object node (rw same (position_here world.charter.roster i ring ready.inside)));
        placed = ap (position (bytes_eq stands.name)) carried.2 ∙ stands.placed;
      }
