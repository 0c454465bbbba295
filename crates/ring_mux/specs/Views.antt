-- The value of a mux: the election object, and the world of the last term of each group.
use Rattle.std.specs.Prelude.{◌≡◌, ◌<◌, ℕ, List, [], ◌∷◌, length, Option, None, Some, is_some, slice_get}
use Rattle.std.specs.Map.{lookup}
use Rattle.std.specs.Str.{bytes_eq}
use Rattle.ring_election.specs.Tables.{Table}
use Rattle.ring_node.specs.Nodes.{known_of}
use Rattle.ring_world.specs.Worlds.{Running, node_at, pending_of}
use Rattle.ring_terms.specs.Object.{GroupView, Object, TermView, find, last_term, names}
use Rattle.ring_terms.specs.Charters.{running_charter}

-- the object, and a world under the name of each group that has a term
pub record Held (E M : Type 0) : Type 0 where
  pub object : Object E
  pub worlds : List (List ℕ × Running E M)

-- The worlds under the names of their groups: each is in the list at its group's place. A group has
-- no world if there is none at its place, or if the list is too short to have its place.
abbrev pub placed : {X : Type 0} → List (List ℕ) → List (Option X) → List (List ℕ × X)
placed [] slots = []
placed (name ∷ names) [] = []
placed (name ∷ names) (None ∷ slots) = placed names slots
placed (name ∷ names) (Some world ∷ slots) = (name, world) ∷ placed names slots

-- the world under a name
abbrev pub world_in : {E M : Type 0} → List ℕ → List (List ℕ × Running E M) → Option (Running E M)
world_in name worlds = lookup (bytes_eq name) worlds

-- The world of a term: its charter is the term's, and a member is informed exactly if its node
-- knows the leader.
pub record IsWorldOf {E S M : Type 0} (t : E → Table S M) (name : List ℕ) (group : GroupView E) (term : TermView) (worlds : List (List ℕ × Running E M)) : Type 0 where
  pub world : Running E M
  pub found : world_in name worlds ≡ Some world
  pub charter : running_charter name group ≡ Some world.charter
  pub marks : (i : ℕ) → i < length term.ring → slice_get term.informed i ≡ Some (is_some (known_of t (node_at world i)))

-- the last term of each group has its world
pub record IsHeld {E S M : Type 0} (t : E → Table S M) (object : Object E) (worlds : List (List ℕ × Running E M)) : Type 0 where
  pub each : (name : List ℕ) (group : GroupView E) (term : TermView) → find name object ≡ Some group → last_term group ≡ Some term → IsWorldOf t name group term worlds

-- `number` packets are in flight or stuck in the world under a name
pub record IsPendingIn {E S M : Type 0} (t : E → Table S M) (name : List ℕ) (number : ℕ) (held : Held E M) : Type 0 where
  pub world : Running E M
  pub found : world_in name held.worlds ≡ Some world
  pub counted : number ≡ pending_of t world
