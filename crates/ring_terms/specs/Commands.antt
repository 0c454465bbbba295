-- The commands of the election object: the refusals of each, and its effect. A refusal changes
-- nothing.
use Rattle.std.specs.Prelude.{◌≡◌, ◌+◌, ◌==◌, ℕ, Bool, not, nat_le, List, [], ◌∷◌, ◌++◌, length, filter, Option, None, is_some, Result, Ok, Err}
use Rattle.std.specs.List.{list_any}
use Rattle.ring_id.specs.declared.refusal.Refusal.{Refusal}
use Rattle.ring_id.specs.declared.refusal.Refusal.TheVariants as refused
use Rattle.ring_id.specs.Refusals.{refused_if, unless_some, IsRefusal}
use Rattle.ring_roster.specs.Ring.{has_number, is_numbered, position_of}
use Rattle.ring_node.specs.declared.charter.Charter.{Charter}
use Rattle.ring_terms.specs.Object.{GroupView, Object, TermView, find, last_term, new_group, new_term}
use Rattle.ring_terms.specs.Charters.{next_charter}

-- The answer of a call that may change something. If a refusal holds, it is answered and nothing
-- changes; otherwise the call has its effect.
abbrev pub Answers : {A S : Type 0} → Option Refusal → Bool → S → Result A Refusal → S
    → (A → Type 0) → Type 0
Answers first grows old (Ok a) new done = (first ≡ None) × done a
Answers first grows old (Err refusal) new done = (new ≡ old) × IsRefusal first grows refusal

-- the answer of a call that changes nothing
abbrev pub Shows : {A : Type 0} → Option Refusal → Bool → Result A Refusal → (A → Type 0) → Type 0
Shows first grows (Ok a) shown = (first ≡ None) × shown a
Shows first grows (Err refusal) shown = IsRefusal first grows refusal

-- the refusals of a command on a group: no group has this name, then those of the group
abbrev pub in_group : {E : Type 0} → List ℕ → (GroupView E → Option Refusal) → Object E
    → Option Refusal
in_group name first object = unless_some (find name object) refused.NoGroup first

-- create: a group has this name; there are 256 groups
abbrev pub create_refusal : {E : Type 0} → List ℕ → Object E → Option Refusal
create_refusal name object =
    refused_if (is_some (find name object)) refused.Exists
    (refused_if (nat_le 256 (length object)) refused.GroupLimit None)

-- join: its number is a member's, with any weight; there are 256 members
abbrev pub join_refusal : {E : Type 0} → ℕ → GroupView E → Option Refusal
join_refusal node group =
    refused_if (list_any (has_number node) group.members) refused.Member
    (refused_if (nat_le 256 (length group.members)) refused.RingFull None)

-- leave: the number is no member's
abbrev pub leave_refusal : {E : Type 0} → ℕ → GroupView E → Option Refusal
leave_refusal node group =
    refused_if (not (list_any (is_numbered node) group.members)) refused.NotMember None

-- start: no members; 1000 terms were started
abbrev pub start_refusal : {E : Type 0} → GroupView E → Option Refusal
start_refusal group =
    refused_if (length group.members == 0) refused.Empty
    (refused_if (nat_le 1000 (length group.terms)) refused.TermLimit None)

-- the number is not in the ring of this term
abbrev pub member_refusal : ℕ → TermView → Option Refusal
member_refusal node term = unless_some (position_of node term.ring) refused.NotInTerm (λ _. None)

-- who: no term was started; the number is not in the ring of the last one
abbrev pub who_refusal : {E : Type 0} → ℕ → GroupView E → Option Refusal
who_refusal node group = unless_some (last_term group) refused.NoTerm (member_refusal node)

-- running: no term was started
abbrev pub running_refusal : {E : Type 0} → GroupView E → Option Refusal
running_refusal group = unless_some (last_term group) refused.NoTerm (λ _. None)

-- a command on a group that is refused only if no group has this name
abbrev pub never_refused : {E : Type 0} → GroupView E → Option Refusal
never_refused group = None

-- create adds a group last, without members or terms
abbrev pub Creates : {E : Type 0} → List ℕ → E → Object E → Object E → Type 0
Creates name algorithm old new = new ≡ old ++ (name, new_group algorithm) ∷ []

-- join adds a member last
abbrev pub Joins : {E : Type 0} → ℕ → GroupView E → GroupView E → Type 0
Joins node old new = new ≡ record old { members = old.members ++ node ∷ [] }

-- leave removes the member with this number, and keeps the order of the rest
abbrev pub Leaves : {E : Type 0} → ℕ → GroupView E → GroupView E → Type 0
Leaves node old new =
    new ≡ record old { members = filter (λ member. not (is_numbered node member)) old.members }

-- start adds a term with the next number; its ring is the member list, it has no leader, and no
-- member is informed
pub record Starts {E : Type 0} (number : ℕ) (old new : GroupView E) : Type 0 where
  pub numbered : number ≡ length old.terms + 1
  pub started : new ≡ record old { terms = old.terms ++ new_term old.members ∷ [] }

-- start returns the charter of the term that it adds
pub record StartsWith {E : Type 0} (name : List ℕ) (charter : Charter E) (old new : GroupView E)
    : Type 0 where
  pub chartered : charter ≡ next_charter name old
  pub starts : Starts charter.term old new
