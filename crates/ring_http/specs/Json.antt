-- The JSON of what was answered: values, and their texts, which end in an LF. The members of an
-- object are in the order of their keys.
use Rattle.std.specs.Prelude.{ℕ, ◌+◌, List, [], ◌∷◌, ◌++◌, map, Option, None, Some, codes}
use Rattle.serde_json.specs.Data.{Data, null, number, unsigned, string, array, object, member, no_members}
use Rattle.serde_json.specs.View.{items_of}
use Rattle.serde_json.specs.Written.{compact_text}
use Rattle.ring_id.specs.Identity.{number_of, weight_of}
use Rattle.ring_any.specs.Any.{word_of}
use Rattle.ring_any.specs.declared.any.Any.{Any}
use Rattle.ring_http.specs.declared.picture.GroupPicture.{GroupPicture}

-- a natural number
abbrev pub natural : ℕ → Data
natural n = number (unsigned n)

-- the array of the values of these, in order
abbrev pub each : {X : Type 0} → (X → Data) → List X → Data
each value_of xs = array (items_of (map value_of xs))

-- the word of an algorithm, or null if it is not known
abbrev pub algorithm_value : Option Any → Data
algorithm_value None = null
algorithm_value (Some algorithm) = string (word_of algorithm)

-- an identity, given its rank
abbrev pub node_value : ℕ → Data
node_value rank =
    object (member (codes "number") (natural (number_of rank))
    (member (codes "weight") (natural (weight_of rank)) no_members))

-- the leader of a term, or null if there is none
abbrev pub leader_value : Option ℕ → Data
leader_value None = null
leader_value (Some rank) = node_value rank

-- a term with its leader
abbrev pub term_value : ℕ → Option ℕ → Data
term_value term leader =
    object (member (codes "leader") (leader_value leader)
    (member (codes "term") (natural term) no_members))

-- the terms with these leaders, from this term on
abbrev pub terms_from : ℕ → List (Option ℕ) → List Data
terms_from term [] = []
terms_from term (leader ∷ leaders) = term_value term leader ∷ terms_from (term + 1) leaders

-- the names of all groups, and the place of the answer
abbrev pub groups_value : ℕ → List (List ℕ) → Data
groups_value place names =
    object (member (codes "groups") (each string names)
    (member (codes "place") (natural place) no_members))

-- a group, and the place of the last answer
abbrev pub group_value : ℕ → GroupPicture → Data
group_value place group =
    object (member (codes "algorithm") (algorithm_value group.algorithm)
    (member (codes "group") (string group.name)
    (member (codes "informed") (each natural group.informed.items)
    (member (codes "members") (each node_value group.members)
    (member (codes "place") (natural place)
    (member (codes "terms") (array (items_of (terms_from 1 group.leaders))) no_members))))))

-- the text of a value, with no space, on a line
abbrev pub line_of : Data → List ℕ
line_of value = compact_text value ++ codes "\n"

-- the names of all groups, and the place of the answer, on a line
abbrev pub groups_json : ℕ → List (List ℕ) → List ℕ
groups_json place names = line_of (groups_value place names)

-- a group, and the place of the last answer, on a line
abbrev pub group_json : ℕ → GroupPicture → List ℕ
group_json place group = line_of (group_value place group)
