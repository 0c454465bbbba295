-- The election object, as a user of the service sees it. It has no ring direction, no message, no
-- phase and no queue.
use Rattle.std.specs.Prelude.{◌≡◌, ℕ, ◌-◌, Bool, false, List, [], length, replicate, map, position, slice_get, slice_set, Option, None, Some}
use Rattle.std.specs.Map.{keys_of, lookup, set_value}
use Rattle.std.specs.Str.{bytes_eq}

-- a term: its frozen ring, its leader or None, and for each position whether that member is
-- informed
pub record TermView : Type 0 where
  pub ring : List ℕ
  pub leader : Option ℕ
  pub informed : List Bool

-- a group: its algorithm, its members in joining order, and its terms in order, the first being
-- number 1
pub record GroupView (E : Type 0) : Type 0 where
  pub algorithm : E
  pub members : List ℕ
  pub terms : List TermView

-- groups in order of creation, under their names
abbrev pub Object : Type 0 → Type 0
Object E = List (List ℕ × GroupView E)

-- the group of this name
abbrev pub find : {E : Type 0} → List ℕ → Object E → Option (GroupView E)
find name object = lookup (bytes_eq name) object

-- the object with this group in place of the group with that name
abbrev pub with_group : {E : Type 0} → List ℕ → GroupView E → Object E → Object E
with_group name group object = set_value (bytes_eq name) object group

-- the names of the groups, in order of creation
abbrev pub names : {E : Type 0} → Object E → List (List ℕ)
names object = keys_of object

-- the place of the group with this name in order of creation
abbrev pub place_of : {E : Type 0} → List ℕ → Object E → Option ℕ
place_of name object = position (bytes_eq name) (names object)

-- a group without members or terms
abbrev pub new_group : {E : Type 0} → E → GroupView E
new_group algorithm = record { algorithm = algorithm; members = []; terms = [] }

-- a term on this ring, with no leader and no member informed
abbrev pub new_term : List ℕ → TermView
new_term ring = record { ring = ring; leader = None; informed = replicate (length ring) false }

-- the last term of a group
abbrev pub last_term : {E : Type 0} → GroupView E → Option TermView
last_term group = slice_get group.terms (length group.terms - 1)

-- a group with this term in place of its last one
abbrev pub with_last : {E : Type 0} → TermView → GroupView E → GroupView E
with_last term group = record group { terms = slice_set group.terms (length group.terms - 1) term }

-- the leader of each term, in order
abbrev pub leaders : {E : Type 0} → GroupView E → List (Option ℕ)
leaders group = map (λ t. t.leader) group.terms

-- a fact about the group with this name
pub record OfGroup {E : Type 0} (name : List ℕ) (Says : GroupView E → Type 0) (object : Object E)
    : Type 0 where
  pub group : GroupView E
  pub found : find name object ≡ Some group
  pub says : Says group

-- a change of the group with this name; the other groups stay
pub record InGroup {E : Type 0} (name : List ℕ) (Does : GroupView E → GroupView E → Type 0)
    (old new : Object E) : Type 0 where
  pub before : GroupView E
  pub after : GroupView E
  pub found : find name old ≡ Some before
  pub does : Does before after
  pub rest : new ≡ with_group name after old

-- a fact about the last term of a group
pub record OfLast {E : Type 0} (Says : TermView → Type 0) (group : GroupView E) : Type 0 where
  pub term : TermView
  pub found : last_term group ≡ Some term
  pub says : Says term

-- a change of the last term of a group; the rest of the group stays
pub record InLast {E : Type 0} (Does : TermView → TermView → Type 0) (old new : GroupView E)
    : Type 0 where
  pub before : TermView
  pub after : TermView
  pub found : last_term old ≡ Some before
  pub does : Does before after
  pub rest : new ≡ with_last after old
