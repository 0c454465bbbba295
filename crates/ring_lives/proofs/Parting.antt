-- Histories in two parts.
use Rattle.std.proofs.Common.{Bool, List, [], ◌∷◌, ◌++◌, refl, subst}
use Rattle.ring_terms.specs.Object.{Object}
use Rattle.ring_table.specs.Histories.{Follows}
use Rattle.ring_table.specs.declared.entry.Entry.{Entry}

module _ {E : Type 0} (two_way greatest : E → Bool) where
  -- a history in two parts
  pub record Parts (old : Object E) (first second : List (Entry E)) (new : Object E) : Type 0 where
    pub mid : Object E
    pub before : Follows two_way greatest old first mid
    pub after : Follows two_way greatest mid second new

  pub parted : (first second : List (Entry E)) (old new : Object E) → Follows two_way greatest old (first ++ second) new → Parts old first second new
  parted [] second old new follows = record { mid = old; before = refl; after = follows }
  parted (entry ∷ first) second old new follows =
      let rest = parted first second follows.0 new follows.2 in
      record { mid = rest.mid; before = (follows.0, follows.1, rest.before); after = rest.after }

  pub joined : (first second : List (Entry E)) (old mid new : Object E) → Follows two_way greatest old first mid → Follows two_way greatest mid second new → Follows two_way greatest old (first ++ second) new
  joined [] second old mid new before after = subst (λ (m : Object E). Follows two_way greatest m second new) before after
  joined (entry ∷ first) second old mid new before after = (before.0, before.1, joined first second before.0 mid new before.2 after)
