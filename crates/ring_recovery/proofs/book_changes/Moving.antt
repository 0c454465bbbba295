-- Members of the last group become others.
use Rattle.std.proofs.Common.{◌≡◌, ◌||◌, ◌==◌, ℕ, Bool, true, false, cond, not, List, [], ◌∷◌, ◌++◌, None, filter, map, refl, ap, sym, ◌∙◌, subst, arith, append_assoc}
use Rattle.std.specs.List.{list_any}
use Rattle.std.proofs.lemmas.Bool.{eq-eqb, eqb-true, true≢false}
use Rattle.std.proofs.lemmas.Bool.Decides.{nat_tests}
use Rattle.std.proofs.lemmas.List.{append-nil}
use Rattle.ring_id.specs.Identity.{number_of}
use Rattle.ring_roster.specs.Ring.{has_number, has_repeat, is_numbered}
use Rattle.ring_terms.specs.Object.{GroupView, Object, find}
use Rattle.ring_terms.proofs.Members.{has_repeat-filter}
use Rattle.ring_change.specs.declared.change.Change.{Change}
use Rattle.ring_change.specs.declared.change.Change.TheVariants.{Join, Leave}
use Rattle.ring_lives.specs.Replays.{Replays}
use Rattle.ring_recovery.specs.BookChanges.{moves}
use Rattle.ring_recovery.proofs.book_changes.LastGroup.{after, in_last_group}

-- if a disjunction is false, so are its parts
or_false : (a b : Bool) → (a || b) ≡ false → (a ≡ false) × (b ≡ false)
or_false false b h = (refl, h)
or_false true b h = absurd (true≢false h)

-- all members with other numbers stay
others_stay : (node : ℕ) (members : List ℕ) → list_any (has_number node) members ≡ false → filter (λ member. not (is_numbered (number_of node) member)) members ≡ members
others_stay node [] none = refl
others_stay node (member ∷ members) none =
    let parts = or_false (has_number node member) (list_any (has_number node) members) none in
    rw parts.0 (ap (λ (rest : List ℕ). member ∷ rest) (others_stay node members parts.1))

-- if a member leaves, the others stay
pub one_leaves : (front : List ℕ) (node : ℕ) (rest : List ℕ) → has_repeat (front ++ node ∷ rest) ≡ false → filter (λ member. not (is_numbered (number_of node) member)) (front ++ node ∷ rest) ≡ front ++ rest
one_leaves [] node rest distinct =
    rw (eq-eqb (number_of node) (number_of node) refl) (others_stay node rest (or_false (list_any (has_number node) rest) (has_repeat rest) distinct).0)
one_leaves (member ∷ front) node rest distinct =
    let parts = or_false (list_any (has_number member) (front ++ node ∷ rest)) (has_repeat (front ++ node ∷ rest)) distinct in
    let other : is_numbered (number_of node) member ≡ false = differ member front node rest parts.0 in
    rw other (ap (λ (all : List ℕ). member ∷ all) (one_leaves front node rest parts.1))
  where
    differ : (member : ℕ) (front : List ℕ) (node : ℕ) (rest : List ℕ) → list_any (has_number member) (front ++ node ∷ rest) ≡ false → is_numbered (number_of node) member ≡ false
    differ member [] node rest none = let here = (or_false (has_number member node) (list_any (has_number member) rest) none).0 in grind (arith, nat_tests)
    differ member (x ∷ front) node rest none = differ member front node rest (or_false (has_number member x) (list_any (has_number member) (front ++ node ∷ rest)) none).1

-- a group with these members
abbrev pub with_members : {E : Type 0} → GroupView E → List ℕ → GroupView E
with_members group members = record group { members = members }

module _ {E : Type 0} (greatest : E → Bool) (name : List ℕ) (old : Object E) (free : find name old ≡ None) (group : GroupView E) where
  -- groups of which the last has these members
  abbrev pub at : List ℕ → Object E
  at members = after old name (with_members group members)

  -- others join
  joining : (members others : List ℕ) → Replays greatest (at members) (map (λ (node : ℕ). Join name node) others) (at (members ++ others))
  joining members [] = ap at (append-nil members)
  joining members (node ∷ others) = (
    at (members ++ node ∷ []),
    in_last_group name old (with_members group members) (with_members group (members ++ node ∷ [])) free refl,
    subst (λ (all : List ℕ). Replays greatest (at (members ++ node ∷ [])) (map (λ (other : ℕ). Join name other) others) (at all)) (append_assoc members (node ∷ []) others) (joining (members ++ node ∷ []) others),
  )

  -- one leaves
  leaving : (front : List ℕ) (node : ℕ) (rest : List ℕ) (changes : List (Change E)) (new : Object E) → has_repeat (front ++ node ∷ rest) ≡ false → Replays greatest (at (front ++ rest)) changes new
      → Replays greatest (at (front ++ node ∷ rest)) (Leave name (number_of node) ∷ changes) new
  leaving front node rest changes new distinct further = (
    at (front ++ rest),
    in_last_group name old (with_members group (front ++ node ∷ rest)) (with_members group (front ++ rest)) free (ap (with_members group) (sym (one_leaves front node rest distinct))),
    further,
  )

  -- those that are left differ in their numbers
  left_differ : (front : List ℕ) (node : ℕ) (rest : List ℕ) → has_repeat (front ++ node ∷ rest) ≡ false → has_repeat (front ++ rest) ≡ false
  left_differ front node rest distinct =
      subst (λ (all : List ℕ). has_repeat all ≡ false) (one_leaves front node rest distinct) (has_repeat-filter (λ member. not (is_numbered (number_of node) member)) (front ++ node ∷ rest) distinct)

  -- members after some that stay become others
  pub moving : (front before others : List ℕ) → has_repeat (front ++ before) ≡ false → Replays greatest (at (front ++ before)) (moves name before others) (at (front ++ others))
  moving front [] others distinct = subst (λ (all : List ℕ). Replays greatest (at all) (moves name [] others) (at (front ++ others))) (sym (append-nil front)) (joining front others)
  moving front (node ∷ before) [] distinct =
      leaving front node before (moves name before []) (at (front ++ [])) distinct (moving front before [] (left_differ front node before distinct))
  moving front (node ∷ before) (next ∷ others) distinct =
      elim (next == node) as (λ b. (next == node) ≡ b → Replays greatest (at (front ++ node ∷ before)) (cond b (moves name before others) (Leave name (number_of node) ∷ moves name before (next ∷ others))) (at (front ++ next ∷ others))) [
        | true ↦ λ same.
            let is : node ≡ next = sym (eqb-true next node same) in
            let all = append_assoc front (node ∷ []) before in
            let rest = moving (front ++ node ∷ []) before others (subst (λ (members : List ℕ). has_repeat members ≡ false) (sym all) distinct) in
            let ends : (front ++ node ∷ []) ++ others ≡ front ++ next ∷ others = append_assoc front (node ∷ []) others ∙ ap (λ (n : ℕ). front ++ n ∷ others) is in
            subst (λ (members : List ℕ). Replays greatest (at members) (moves name before others) (at (front ++ next ∷ others))) all
            (subst (λ (members : List ℕ). Replays greatest (at ((front ++ node ∷ []) ++ before)) (moves name before others) (at members)) ends rest)
        | false ↦ λ _. leaving front node before (moves name before (next ∷ others)) (at (front ++ next ∷ others)) distinct (moving front before (next ∷ others) (left_differ front node before distinct))
      ] refl
