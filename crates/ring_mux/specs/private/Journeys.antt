-- The promises of inner functions of a mux on one delivery and on many.
use Rattle.std.specs.Prelude.{◌≡◌, ℕ, Bool, List, Some, None}
use Rattle.ring_id.specs.declared.side.Side.{Side}
use Rattle.ring_election.specs.Tables.{Table}
use Rattle.ring_election.specs.Families.{Fitting}
use Rattle.ring_world.specs.Worlds.{Running}
use Rattle.ring_terms.specs.Commands.{running_refusal}
use Rattle.ring_terms.specs.Object.{Object, OfGroup, names}
use Rattle.ring_mux.specs.declared.carried.Carried.{Carried}
use Rattle.ring_mux.specs.private.Views.{IsSeat, IsSoundHeld}
use Rattle.ring_mux.specs.Views.{world_in}
use Rattle.ring_mux.specs.Journeys.{with_world, Carries, Makes}

-- A delivery in a world, for each list of worlds in which it is the world of a group and the
-- position is a seat of that group.
abbrev pub CarriesAmong : {E S M : Type 0} → (E → Table S M) → (E → Fitting M) → (E → List ℕ → ℕ) → (E → Bool) → (E → Bool) → ℕ → Side → Object E → Running E M → Carried → Object E → Running E M → Type 0
CarriesAmong {E} {S} {M} t fits winner two_way greatest i side object world done object' world' =
    (name : List ℕ) (worlds : List (List ℕ × Running E M)) → IsSoundHeld t fits winner object worlds → world_in name worlds ≡ Some world → IsSeat name i object
    → Carries t two_way greatest name i side world (record { object = object; worlds = worlds }) done (record { object = object'; worlds = with_world name world' worlds })
    × IsSoundHeld t fits winner object' (with_world name world' worlds)
    × (names object' ≡ names object)

-- many deliveries in a world, for each list of worlds in which it is the world of a group with a
-- running term
abbrev pub MakesAmong : {E S M : Type 0} → (E → Table S M) → (E → Fitting M) → (E → List ℕ → ℕ) → (E → Bool) → ℕ → Object E → Running E M → ℕ → Bool → Object E → Running E M → Type 0
MakesAmong {E} {S} {M} t fits winner greatest count object world done starved object' world' =
    (name : List ℕ) (worlds : List (List ℕ × Running E M)) → IsSoundHeld t fits winner object worlds → world_in name worlds ≡ Some world → OfGroup name (λ group. running_refusal group ≡ None) object
    → Makes t greatest name count done starved (record { object = object; worlds = worlds }) (record { object = object'; worlds = with_world name world' worlds })
    × IsSoundHeld t fits winner object' (with_world name world' worlds)
