-- What a path names, step by step.
use Rattle.std.specs.Prelude.{◌≡◌, ℕ, List, Option, None, Some}
use Rattle.ring_id.specs.GroupName.{IsName}
use Rattle.ring_http.specs.Routes.{IsResource, Names, path_of}
use Rattle.ring_http.specs.declared.route.Resource.{Resource}
use Rattle.ring_http.specs.declared.route.Resource.TheVariants.{Election, Group}

-- the group or the election that a path names, and `None` only if it names none
abbrev pub NamesGroup : List ℕ → Option Resource → Type 0
NamesGroup path (Some resource) = IsResource resource × (path ≡ path_of resource)
NamesGroup path None = (name : List ℕ) → IsName name
    → (path ≡ path_of (Group name) → ⊥) × (path ≡ path_of (Election name) → ⊥)

-- the same of all that there is
abbrev pub Finds : List ℕ → Option Resource → Type 0
Finds path (Some resource) = IsResource resource × (path ≡ path_of resource)
Finds path None = Names path None
