-- A cut in a group's world keeps what a mux keeps: no node learns anything by it.
use Rattle.std.proofs.Common.{◌≡◌, ℕ, Bool, List, Some, refl}
use Rattle.std.specs.Prelude.{Result, Ok, Err}
use Rattle.std.specs.Str.{bytes_eq}
use Rattle.std.proofs.lemmas.Map.Steps.{set_value_same}
use Rattle.ring_id.specs.declared.refusal.Refusal.{Refusal}
use Rattle.ring_id.specs.declared.side.Side.{Side}
use Rattle.ring_election.specs.Tables.{Table}
use Rattle.ring_election.specs.Families.{Fitting}
use Rattle.ring_world.specs.Worlds.{Cuts, IsSoundWorld, Running, after_cut}
use Rattle.ring_terms.specs.Object.{Object}
use Rattle.ring_mux.specs.Journeys.{with_world}
use Rattle.ring_mux.specs.Views.{IsHeld, world_in}
use Rattle.ring_mux.specs.private.Views.{IsSoundHeld}
use Rattle.ring_mux.proofs.Carrying.{held_silent}
use Rattle.ring_mux.proofs.Keeping.{sound_written}

module _ {E S M : Type 0} (t : E → Table S M) (fits : E → Fitting M) (winner : E → List ℕ → ℕ) (object : Object E) (worlds : List (List ℕ × Running E M)) (kept : IsSoundHeld t fits winner object worlds)
    (name : List ℕ) (world : Running E M) (found : world_in name worlds ≡ Some world) (i : ℕ) (side : Side) where
  held_cut : (two_way : Bool) (answer : Result (Unit {0}) Refusal) (after : Running E M) → Cuts two_way world i side answer after → IsHeld t object (with_world name after worlds)
  held_cut two_way (Ok done) after cuts = rw (cuts.1) (held_silent t object worlds kept.held name world found (after_cut world i side) refl (λ j. refl))
  held_cut two_way (Err refusal) after cuts = rw (cuts.1, set_value_same (bytes_eq name) worlds world found) kept.held

  -- what a mux keeps, once a cut was answered
  pub kept_cut : (two_way : Bool) (answer : Result (Unit {0}) Refusal) (after : Running E M) → Cuts two_way world i side answer after → IsSoundWorld t fits winner after → IsSoundHeld t fits winner object (with_world name after worlds)
  kept_cut two_way answer after cuts sound = record {
    held = held_cut two_way answer after cuts;
    sound = sound_written t fits winner name worlds world after kept.sound found sound;
  }
