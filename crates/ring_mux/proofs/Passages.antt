-- Passages in a group's world, by what they tell: what is told is filed, and so each is a delivery of a drain.
use Rattle.std.proofs.Common.{◌≡◌, ◌+◌, ◌<◌, ℕ, zero, suc, Bool, List, length, Option, Some, None, option_map, refl, ap, subst, ◌∙◌, arith}
use Rattle.ring_id.specs.declared.side.Side.{Side}
use Rattle.ring_election.specs.Tables.{Table}
use Rattle.ring_election.specs.Families.{Fitting}
use Rattle.ring_node.specs.declared.charter.Charter.{Charter}
use Rattle.ring_world.specs.Worlds.{HasPassed, IsFirstLink, IsSoundWorld, PassesSilently, Running, size_of}
use Rattle.ring_terms.specs.declared.standing.Noting.{Noting}
use Rattle.ring_terms.specs.Charters.{running_in}
use Rattle.ring_terms.specs.Notes.{Notes}
use Rattle.ring_terms.specs.Object.{Object, place_of}
use Rattle.ring_mux.specs.private.Views.{StandsAt}
use Rattle.ring_mux.proofs.Carrying.{seat_inside}
use Rattle.ring_mux.proofs.Drains.{HasCarriedAmong, HasDrainedAmong, none_drained, one_drained}
use Rattle.ring_mux.proofs.Keeping.{sound_written}
use Rattle.ring_mux.proofs.Outcomes.{carried_heard, carried_unheard, held_heard, held_unheard}
use Rattle.ring_mux.proofs.Places.{names_carried}
use Rattle.ring_mux.proofs.Standing.{charter_placed, charter_runs, passed_charter, passed_moves, passed_wins, stands_after, told_at}

-- the leader may be filed for the member at a position of the ring of a charter, by the group's place
pub record CanFile {E : Type 0} (winner : E → List ℕ → ℕ) (place : ℕ) (object : Object E) (charter : Charter E) (i leader : ℕ) : Type 0 where
  pub placed : place_of charter.group object ≡ Some place
  pub running : running_in charter.group object ≡ Some charter
  pub inside : i < length charter.roster
  pub wins : leader ≡ winner charter.algorithm charter.roster

module _ {E S M : Type 0} (t : E → Table S M) (fits : E → Fitting M) (winner : E → List ℕ → ℕ) (i : ℕ) (side : Side) (object : Object E) (world : Running E M) (leader : Option ℕ) (world' : Running E M)
    (passed : HasPassed t world i side leader world') (sound : IsSoundWorld t fits winner world') where
  -- a passage that tells nothing is a delivery that leaves the object
  pub silent_carried : (greatest : E → Bool) → leader ≡ None → HasCarriedAmong t fits winner greatest i side object world object world'
  silent_carried greatest none = λ name worlds kept found seat.
      let moved = passed_moves t world world' i side leader passed in
      let silent = ap (option_map (told_at world.charter i)) none in (
        carried_unheard t object worlds kept.held name world found i seat side _ world' refl fits winner sound _ moved silent greatest,
        record {
          held = held_unheard t object worlds kept.held name world found i seat side _ world' refl fits winner sound _ moved silent;
          sound = sound_written _ _ _ name worlds _ _ kept.sound found sound;
        },
        refl,
      )

  -- a leader that it tells may be filed
  pub told_files : (place : ℕ) → StandsAt t fits winner place object world → i < size_of world → (v : ℕ) → leader ≡ Some v → (charter : Charter E) → charter ≡ world'.charter → CanFile winner place object charter i v
  told_files place stands inside v tells charter is =
      let stays = passed_charter t world world' i side leader passed in
      let same : charter ≡ world.charter = is ∙ stays in
      record {
        placed = rw same (charter_placed t fits winner place object world stands);
        running = rw same (charter_runs t fits winner place object world stands);
        inside = rw same inside;
        wins = rw is (passed_wins t world world' i side leader passed fits winner sound (rw stays inside) v tells);
      }

  -- and once it is, the passage is a delivery
  pub told_carried : (greatest : E → Bool) (v : ℕ) → leader ≡ Some v → (charter : Charter E) → charter ≡ world'.charter
      → (noting : Noting) (object' : Object E) → Notes greatest (told_at charter i v) object noting object' → HasCarriedAmong t fits winner greatest i side object world object' world'
  told_carried greatest v tells charter is noting object' notes = λ name worlds kept found seat.
      let moved = passed_moves t world world' i side leader passed in
      let heard = ap (option_map (told_at world.charter i)) tells in
      let filed = subst (λ (c : Charter E). Notes greatest (told_at c i v) object noting object') (is ∙ passed_charter t world world' i side leader passed) notes in
      let carried = carried_heard t object worlds kept.held name world found i seat side _ world' refl fits winner sound _ moved (told_at world.charter i v) heard greatest noting object' filed in (
        carried,
        record {
          held = held_heard t object worlds kept.held name world found i seat side _ world' refl fits winner sound _ moved (told_at world.charter i v) heard greatest noting object' filed;
          sound = sound_written _ _ _ name worlds _ _ kept.sound found sound;
        },
        names_carried _ _ name i side _ _ _ found carried (kept.sound.each name world found).is_ring (seat_inside t object worlds kept.held name world found i seat),
      )

-- so many deliveries of a drain were made, and the world stands at its group's place
pub record HasDrainedAt {E S M : Type 0} (t : E → Table S M) (fits : E → Fitting M) (winner : E → List ℕ → ℕ) (greatest : E → Bool) (place n : ℕ) (object : Object E) (world : Running E M) (object' : Object E) (world' : Running E M) : Type 0 where
  pub drained : HasDrainedAmong t fits winner greatest n object world object' world'
  pub stands : StandsAt t fits winner place object' world'

module _ {E S M : Type 0} (t : E → Table S M) (fits : E → Fitting M) (winner : E → List ℕ → ℕ) (greatest : E → Bool) (place : ℕ) (object : Object E) (world : Running E M) where
  -- none were made
  pub none_at : StandsAt t fits winner place object world → HasDrainedAt t fits winner greatest place 0 object world object world
  none_at stands = record { drained = none_drained t fits winner greatest object world; stands = stands }

  -- one more, on the link that is ready
  pub one_at : (n i : ℕ) (side : Side) (object' : Object E) (world' : Running E M) (object'' : Object E) (world'' : Running E M)
      → HasDrainedAt t fits winner greatest place n object world object' world' → IsFirstLink t world' i side → HasCarriedAmong t fits winner greatest i side object' world' object'' world''
      → HasDrainedAt t fits winner greatest place (suc n) object world object'' world''
  one_at n i side object' world' object'' world'' before first carried =
      let ring = (before.stands.kept.sound.each before.stands.name world' before.stands.found).is_ring in
      record {
        drained = one_drained t fits winner greatest n i side object world object' world' object'' world'' first ring before.drained carried;
        stands = stands_after t fits winner place object' world' before.stands greatest i side object'' world'' first ring carried;
      }

  -- and more that tell nothing
  pub silent_at : (n more : ℕ) (object' : Object E) (world' world'' : Running E M) → HasDrainedAt t fits winner greatest place n object world object' world' → PassesSilently t fits winner world' more world''
      → HasDrainedAt t fits winner greatest place (n + more) object world object' world''
  silent_at n zero object' world' world'' before same = let none : n + zero ≡ n = omega arith in rw (none, same) before
  silent_at n (suc more) object' world' world'' before passes =
      let step = passes.3 in
      let next : n + suc more ≡ suc (n + more) = omega arith in
      rw next
      (one_at (n + more) passes.1 step.side object' passes.0 object' world'' (silent_at n more object' world' passes.0 before passes.2) step.first
      (silent_carried t fits winner passes.1 step.side object' passes.0 None world'' step.passed step.sound greatest refl))
