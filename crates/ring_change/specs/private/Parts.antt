-- A change's line in the parts that are put: its verb, the name of its group, and the rest.
use Rattle.std.specs.Prelude.{◌++◌, ℕ, List, [], ◌∷◌, codes, decimal}
use Rattle.ring_any.specs.Any.{word_of}
use Rattle.ring_any.specs.declared.any.Any.{Any}
use Rattle.ring_grammar.specs.Identities.{node_word}
use Rattle.ring_change.specs.declared.change.Change.{Change}
use Rattle.ring_change.specs.declared.change.Change.TheVariants.{Create, Join, Leave, Start, Know}

-- the first word of a change, and a space
abbrev pub verb_text : Change Any → List ℕ
verb_text (Create group algorithm) = codes "create "
verb_text (Join group node) = codes "join "
verb_text (Leave group number) = codes "leave "
verb_text (Start group) = codes "start "
verb_text (Know group term member leader) = codes "know "

-- the name of its group
abbrev pub group_in : Change Any → List ℕ
group_in (Create group algorithm) = group
group_in (Join group node) = group
group_in (Leave group number) = group
group_in (Start group) = group
group_in (Know group term member leader) = group

-- a space and the words of a term, a member and a leader
abbrev pub known_text : ℕ → ℕ → ℕ → List ℕ
known_text term member leader =
    (32 ∷ decimal term) ++ ((32 ∷ node_word member) ++ (32 ∷ node_word leader))

-- the text after the name: a space and each further word
abbrev pub rest_text : Change Any → List ℕ
rest_text (Create group algorithm) = 32 ∷ word_of algorithm
rest_text (Join group node) = 32 ∷ node_word node
rest_text (Leave group number) = 32 ∷ decimal number
rest_text (Start group) = []
rest_text (Know group term member leader) = known_text term member leader
