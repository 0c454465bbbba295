-- Changes that lead to the same groups, and the same changes after each of them.
use Rattle.std.proofs.Common.{◌≡◌, Bool, List, [], ◌∷◌, ◌++◌, Option, Some, None, refl, ap, sym, ◌∙◌, subst}
use Rattle.ring_any.specs.Any.{any_greatest, any_two_way}
use Rattle.ring_any.specs.declared.any.Any.{Any}
use Rattle.ring_terms.specs.Object.{Object}
use Rattle.ring_table.specs.Histories.{IsLegal}
use Rattle.ring_table.specs.declared.entry.Entry.{Entry}
use Rattle.ring_change.specs.declared.change.Change.{Change}
use Rattle.ring_lives.specs.Changes.{change_in, changes_of, onto}
use Rattle.ring_lives.specs.Replays.{AreExact, HaveTheirEffect, Replays}
use Rattle.ring_recovery.specs.Written.{LeadToSame}

-- the changes of entries and then others
changes_of-append : (first second : List (Entry Any)) → changes_of (first ++ second) ≡ changes_of first ++ changes_of second
changes_of-append [] second = refl
changes_of-append (entry ∷ first) second =
    ap (λ (changes : List (Change Any)). onto (change_in entry) changes) (changes_of-append first second) ∙ onto_more (change_in entry) (changes_of first) (changes_of second)
  where
    onto_more : (one : Option (Change Any)) (xs ys : List (Change Any)) → onto one (xs ++ ys) ≡ onto one xs ++ ys
    onto_more None xs ys = refl
    onto_more (Some x) xs ys = refl

-- changes, and then others
pub chain : {E : Type 0} (greatest : E → Bool) (first second : List (Change E)) (old mid new : Object E) → Replays greatest old first mid → Replays greatest mid second new → Replays greatest old (first ++ second) new
chain {E} greatest [] second old mid new before after = subst (λ (m : Object E). Replays greatest m second new) before after
chain greatest (one ∷ first) second old mid new before after = (before.0, before.1, chain greatest first second before.0 mid new before.2 after)

-- the groups between two lists of changes
record Parted (first second : List (Change Any)) (old new : Object Any) : Type 0 where
  mid : Object Any
  before : Replays any_greatest old first mid
  after : Replays any_greatest mid second new

parted : (first second : List (Change Any)) (old new : Object Any) → Replays any_greatest old (first ++ second) new → Parted first second old new
parted [] second old new replays = record { mid = old; before = refl; after = replays }
parted (change ∷ first) second old new replays =
    let rest = parted first second replays.0 new replays.2 in
    record { mid = rest.mid; before = (replays.0, replays.1, rest.before); after = rest.after }

-- the same entries after changes that lead to the same groups
pub alike_more : (begun : List (Change Any)) (first rest : List (Entry Any)) → LeadToSame begun (changes_of first) → LeadToSame (begun ++ changes_of rest) (changes_of (first ++ rest))
alike_more begun first rest alike groups = (
  λ leads. let parts = parted begun (changes_of rest) [] groups leads in
      subst (λ (changes : List (Change Any)). Replays any_greatest [] changes groups) (sym (changes_of-append first rest))
      (chain any_greatest (changes_of first) (changes_of rest) [] parts.mid groups ((alike parts.mid).0 parts.before) parts.after),
  λ leads. let parts = parted (changes_of first) (changes_of rest) [] groups (subst (λ (changes : List (Change Any)). Replays any_greatest [] changes groups) (changes_of-append first rest) leads) in
      chain any_greatest begun (changes_of rest) [] parts.mid groups ((alike parts.mid).1 parts.before) parts.after,
)

-- changes that lead to the groups of a legal history
pub alike_legal : HaveTheirEffect any_two_way any_greatest → AreExact any_greatest → (changes : List (Change Any)) (entries : List (Entry Any)) (groups : Object Any) → Replays any_greatest [] changes groups → IsLegal any_two_way any_greatest entries groups
    → LeadToSame changes (changes_of entries)
alike_legal effect exact changes entries groups leads legal other = (
  λ replays. subst (λ (o : Object Any). Replays any_greatest [] (changes_of entries) o) (exact changes [] groups other leads replays) (effect entries [] groups legal),
  λ replays. subst (λ (o : Object Any). Replays any_greatest [] changes o) (exact (changes_of entries) [] groups other (effect entries [] groups legal) replays) leads,
)
