-- The views of a book's parts, and the facts that its type keeps of them.
use Rattle.std.specs.Prelude.{ℕ, List, map}
use Rattle.ring_terms.specs.declared.term.Term.{Term}
use Rattle.ring_terms.specs.declared.group.Group.{Group}
use Rattle.ring_terms.specs.Object.{GroupView, Object, TermView}

-- the view of a term
abbrev pub term_view : {E : Type 0} → Term E → TermView
term_view t =
    record { ring = t.charter.value.roster; leader = t.leader; informed = t.informed.items }

-- the view of a group
abbrev pub group_view : {E : Type 0} → Group E → GroupView E
group_view g =
    record {
      algorithm = g.algorithm;
      members = g.members.items;
      terms = map term_view g.terms.items;
    }

-- the view of a book
abbrev pub object_view : {E : Type 0} → List (List ℕ × Group E) → Object E
object_view entries = map (λ e. (e.0, group_view e.1)) entries
