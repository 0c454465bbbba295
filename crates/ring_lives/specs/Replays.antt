-- The effect of changes on the groups, and that a history has the effect of its changes.
use Rattle.std.specs.Prelude.{◌≡◌, ℕ, Bool, List, [], ◌∷◌}
use Rattle.ring_id.specs.Identity.{number_of}
use Rattle.ring_terms.specs.Commands.{Creates, Joins, Leaves, Starts}
use Rattle.ring_terms.specs.Object.{InGroup, Object}
use Rattle.ring_table.specs.Histories.{Follows, InformsOf}
use Rattle.ring_table.specs.declared.entry.Entry.{Entry}
use Rattle.ring_change.specs.declared.change.Change.{Change}
use Rattle.ring_change.specs.declared.change.Change.TheVariants.{Create, Join, Leave, Start, Know}
use Rattle.ring_lives.specs.Changes.{changes_of}

module _ {E : Type 0} (greatest : E → Bool) where
  -- the effect of a change
  abbrev pub Does : Object E → Change E → Object E → Type 0
  Does old (Create group algorithm) new = Creates group algorithm old new
  Does old (Join group node) new = InGroup group (Joins node) old new
  Does old (Leave group node) new = InGroup group (Leaves node) old new
  Does old (Start group) new = (term : ℕ) × InGroup group (Starts term) old new
  Does old (Know group term member leader) new =
      InGroup group (InformsOf greatest term (number_of member) leader) old new

  -- changes one after another
  abbrev pub Replays : Object E → List (Change E) → Object E → Type 0
  Replays old [] new = new ≡ old
  Replays old (change ∷ changes) new =
      (mid : Object E) × Does old change mid × Replays mid changes new

  -- The changes of two histories lead from no groups to the same groups.
  pub record LeadAlike (first second : List (Entry E)) : Type 0 where
    pub groups : Object E
    pub by_first : Replays [] (changes_of first) groups
    pub by_second : Replays [] (changes_of second) groups

  -- the same changes lead from the same groups to the same groups
  abbrev pub AreExact : Type 0
  AreExact =
      (changes : List (Change E)) (old a b : Object E)
      → Replays old changes a → Replays old changes b → a ≡ b

-- entries that follow one another have the effect of their changes
abbrev pub HaveTheirEffect : {E : Type 0} → (E → Bool) → (E → Bool) → Type 0
HaveTheirEffect {E} two_way greatest =
    (entries : List (Entry E)) (old new : Object E)
    → Follows two_way greatest old entries new
    → Replays greatest old (changes_of entries) new
