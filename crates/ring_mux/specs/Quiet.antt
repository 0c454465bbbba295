-- Quiet means known: a running term with nothing in flight and no cut link is known at all its
-- members.
use Rattle.std.specs.Prelude.{◌≡◌, List, ℕ, Some}
use Rattle.ring_election.specs.Tables.{Table}
use Rattle.ring_terms.specs.Charters.{running_charter}
use Rattle.ring_terms.specs.Object.{GroupView, TermView, find, last_term}
use Rattle.ring_world.specs.Quiet.{IsQuiet}
use Rattle.ring_world.specs.Worlds.{IsUncut, Running}
use Rattle.ring_terms.specs.Steps.{IsKnown}
use Rattle.ring_mux.specs.Views.{Held, world_in}

-- a running term has its world, and is known at all its members if no link of the world is cut and
-- it is quiet
pub record IsKnownIfQuiet {E S M : Type 0} (t : E → Table S M) (name : List ℕ) (group : GroupView E) (term : TermView) (worlds : List (List ℕ × Running E M)) : Type 0 where
  pub world : Running E M
  pub found : world_in name worlds ≡ Some world
  pub charter : running_charter name group ≡ Some world.charter
  pub known : IsUncut world → IsQuiet t world → IsKnown term

-- the same holds of the running term of each group
pub record QuietIsKnown {E S M : Type 0} (t : E → Table S M) (held : Held E M) : Type 0 where
  pub each : (name : List ℕ) (group : GroupView E) (term : TermView) → find name held.object ≡ Some group → last_term group ≡ Some term → IsKnownIfQuiet t name group term held.worlds
