-- The changes that lead from no groups to a book. Those that were undone before a term started are
-- not among them.
use Rattle.std.specs.Prelude.{◌+◌, ◌==◌, ◌++◌, ℕ, Bool, true, false, if◌then◌else◌, List, [], ◌∷◌, Option, Some, None, map}
use Rattle.ring_id.specs.Identity.{number_of}
use Rattle.ring_terms.specs.Object.{GroupView, Object, TermView}
use Rattle.ring_change.specs.declared.change.Change.{Change}
use Rattle.ring_change.specs.declared.change.Change.TheVariants.{Create, Join, Leave, Start, Know}

-- Members of a group become others. A member stays if it is the next of the others, in their order.
-- The rest of the members leave, and then the rest of the others join.
abbrev pub moves : {E : Type 0} → List ℕ → List ℕ → List ℕ → List (Change E)
moves name [] after = map (λ node. Join name node) after
moves name (member ∷ before) [] = Leave name (number_of member) ∷ moves name before []
moves name (member ∷ before) (next ∷ after) =
    if next == member
    then moves name before after
    else Leave name (number_of member) ∷ moves name before (next ∷ after)

-- each member that is informed comes to know the leader of a term, in the order of the ring
abbrev pub news : {E : Type 0} → List ℕ → ℕ → ℕ → List ℕ → List Bool → List (Change E)
news name number leader [] marks = []
news name number leader (member ∷ ring) [] = []
news name number leader (member ∷ ring) (true ∷ marks) =
    Know name number member leader ∷ news name number leader ring marks
news name number leader (member ∷ ring) (false ∷ marks) = news name number leader ring marks

-- the changes of `news`, in a term that may have no leader
abbrev pub news_of : {E : Type 0} → List ℕ → ℕ → Option ℕ → List ℕ → List Bool → List (Change E)
news_of name number None ring marks = []
news_of name number (Some leader) ring marks = news name number leader ring marks

-- the members before become the ring of a term, the term starts, and members come to know its
-- leader
abbrev pub term_changes : {E : Type 0} → List ℕ → ℕ → List ℕ → TermView → List (Change E)
term_changes name number before term =
    moves name before term.ring
    ++ Start name
    ∷ news_of name number term.leader term.ring term.informed

-- the changes of terms one after another, of which the first has this number; then the last ring
-- becomes the members
abbrev pub terms_changes : {E : Type 0}
    → List ℕ → ℕ → List ℕ → List TermView → List ℕ → List (Change E)
terms_changes name number before [] members = moves name before members
terms_changes name number before (term ∷ terms) members =
    term_changes name number before term
    ++ terms_changes name (number + 1) term.ring terms members

-- the changes of a group, from its creation on
abbrev pub group_changes : {E : Type 0} → List ℕ → GroupView E → List (Change E)
group_changes name group =
    Create name group.algorithm ∷ terms_changes name 1 [] group.terms group.members

-- the changes of all groups, in order of creation
abbrev pub book_changes : {E : Type 0} → Object E → List (Change E)
book_changes [] = []
book_changes (entry ∷ groups) = group_changes entry.0 entry.1 ++ book_changes groups
