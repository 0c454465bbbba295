-- Posts: the packets that a node sent join the outbox.
use Rattle.std.specs.Prelude.{◌≡◌, ◌<◌, ◌≤◌, ℕ, List, ◌++◌, Option, Some}
use Rattle.ring_workers.specs.Lists.{IsOneOf}

-- each envelope from this place on, up to another, joins the list at its end
pub record Posted {A : Type 0} (envelope : ℕ → Option A) (from to : ℕ) (old new : List A) : Type 0 where
  pub more : List A
  pub behind : new ≡ old ++ more
  pub each : (k : ℕ) (e : A) → from ≤ k → k < to → envelope k ≡ Some e → IsOneOf more e

-- each envelope from this place on joins the list at its end
pub record Posts {A : Type 0} (envelope : ℕ → Option A) (from : ℕ) (old new : List A) : Type 0 where
  pub more : List A
  pub behind : new ≡ old ++ more
  pub each : (k : ℕ) (e : A) → from ≤ k → envelope k ≡ Some e → IsOneOf more e
