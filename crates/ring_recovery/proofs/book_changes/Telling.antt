-- Members of the last term come to know its leader.
use Rattle.std.proofs.Common.{◌≡◌, ◌<◌, ◌+◌, ℕ, zero, suc, Bool, true, false, List, [], ◌∷◌, ◌++◌, Option, Some, None, length, replicate, slice_get, refl, ap, sym, ◌∙◌, subst, arith, append_assoc, length-append}
use Rattle.std.proofs.lemmas.Bool.{false≢true}
use Rattle.std.proofs.lemmas.Option.{none-some, same_Some}
use Rattle.std.proofs.Math.Seq.{set-append_seam}
use Rattle.ring_id.specs.Identity.{number_of}
use Rattle.ring_roster.specs.Ring.{has_repeat}
use Rattle.ring_terms.specs.Moves.{IsNamed, InformsIn, LeadsAfter}
use Rattle.ring_terms.specs.Object.{GroupView, Object, TermView, find}
use Rattle.ring_terms.proofs.Members.{position_of-at}
use Rattle.ring_table.specs.Histories.{InformsOf}
use Rattle.ring_lives.specs.Replays.{Replays}
use Rattle.ring_recovery.specs.BookChanges.{news}
use Rattle.ring_recovery.proofs.book_changes.LastGroup.{after, at_seam, in_last, in_last_group, with_terms}

-- the leader after these marks were set
abbrev led : Option ℕ → ℕ → List Bool → Option ℕ
led was leader [] = was
led was leader (true ∷ marks) = led (Some leader) leader marks
led was leader (false ∷ marks) = led was leader marks

-- a leader stays
led_stays : (leader : ℕ) (marks : List Bool) → led (Some leader) leader marks ≡ Some leader
led_stays leader [] = refl
led_stays leader (true ∷ marks) = led_stays leader marks
led_stays leader (false ∷ marks) = led_stays leader marks

-- if a mark was set, there is a leader
led_once : (leader : ℕ) (marks : List Bool) (position : ℕ) → slice_get marks position ≡ Some true → led None leader marks ≡ Some leader
led_once leader [] position set = absurd (none-some true set)
led_once leader (true ∷ marks) position set = led_stays leader marks
led_once leader (false ∷ marks) zero set = absurd (false≢true (same_Some false true set))
led_once leader (false ∷ marks) (suc position) set = led_once leader marks position set

-- marks of which none is set
pub none_set : (marks : List Bool) (n : ℕ) → length marks ≡ n → ((position : ℕ) → position < n → slice_get marks position ≡ Some false) → marks ≡ replicate n false
none_set [] zero size none = refl
none_set [] (suc n) size none = absurd (omega (arith, size))
none_set (mark ∷ marks) zero size none = absurd (omega (arith, size))
none_set (mark ∷ marks) (suc n) size none =
    let first : mark ≡ false = same_Some mark false (none 0 (omega arith)) in
    let rest = none_set marks n (omega (arith, size)) (λ position below. none (suc position) (omega (arith, below))) in
    (λ j. first j ∷ rest j)

module _ {E : Type 0} (greatest : E → Bool) (name : List ℕ) (old : Object E) (free : find name old ≡ None) (group : GroupView E) (terms : List TermView) (number : ℕ) (ring : List ℕ) (leader : ℕ)
    (numbered : length terms + 1 ≡ number) (distinct : has_repeat ring ≡ false) (named : IsNamed (greatest group.algorithm) ring leader) where
  -- the last term with this leader and these marks
  abbrev term_at : Option ℕ → List Bool → TermView
  term_at was marks = record { ring = ring; leader = was; informed = marks }

  abbrev at : Option ℕ → List Bool → Object E
  at was marks = after old name (with_terms group (terms ++ term_at was marks ∷ []))

  -- one member comes to know it
  informs : (front : List ℕ) (member : ℕ) (rest : List ℕ) → ring ≡ front ++ member ∷ rest → (set unset : List Bool) → length set ≡ length front → (was : Option ℕ) → LeadsAfter (greatest group.algorithm) ring was leader
      → InformsIn (greatest group.algorithm) (number_of member) leader (term_at was (set ++ false ∷ unset)) (term_at (Some leader) (set ++ true ∷ unset))
  informs front member rest is set unset size was leads =
      let here : slice_get ring (length front) ≡ Some member = rw is (at_seam front member rest) in
      record {
        position = length front;
        placed = position_of-at ring (length front) member distinct here;
        uninformed = rw (sym size) (at_seam set false unset);
        leads = leads;
        changed = ap (λ (marks : List Bool). term_at (Some leader) marks) (sym (rw (sym size) (set-append_seam set false unset true)));
      }

  -- members after some others come to know it
  telling : (front rest : List ℕ) (set marks : List Bool) → ring ≡ front ++ rest → length set ≡ length front → length marks ≡ length rest → (was : Option ℕ) → LeadsAfter (greatest group.algorithm) ring was leader
      → Replays greatest (at was (set ++ replicate (length marks) false)) (news name number leader rest marks) (at (led was leader marks) (set ++ marks))
  telling front [] set [] is size same was leads = refl
  telling front [] set (mark ∷ marks) is size same was leads = absurd (omega (arith, same))
  telling front (member ∷ rest) set [] is size same was leads = absurd (omega (arith, same))
  telling front (member ∷ rest) set (true ∷ marks) is size same was leads =
      let unset = replicate (length marks) false in
      let does = informs front member rest is set unset size was leads in
      let informed : InformsOf greatest number (number_of member) leader (with_terms group (terms ++ term_at was (set ++ false ∷ unset) ∷ [])) (with_terms group (terms ++ term_at (Some leader) (set ++ true ∷ unset) ∷ [])) =
      record { numbered = length-append terms (term_at was (set ++ false ∷ unset) ∷ []) ∙ numbered; informs = in_last group terms (term_at was (set ++ false ∷ unset)) (term_at (Some leader) (set ++ true ∷ unset)) does } in
      let further = telling (front ++ member ∷ []) rest (set ++ true ∷ []) marks (is ∙ sym (append_assoc front (member ∷ []) rest)) (length-append set (true ∷ []) ∙ ap (λ (n : ℕ). n + 1) size ∙ sym (length-append front (member ∷ []))) (omega (arith, same)) (Some leader) refl in (
        at (Some leader) (set ++ true ∷ unset),
        in_last_group name old (with_terms group (terms ++ term_at was (set ++ false ∷ unset) ∷ [])) (with_terms group (terms ++ term_at (Some leader) (set ++ true ∷ unset) ∷ [])) free informed,
        subst (λ (all : List Bool). Replays greatest (at (Some leader) (set ++ true ∷ unset)) (news name number leader rest marks) (at (led (Some leader) leader marks) all)) (append_assoc set (true ∷ []) marks)
            (subst (λ (all : List Bool). Replays greatest (at (Some leader) all) (news name number leader rest marks) (at (led (Some leader) leader marks) ((set ++ true ∷ []) ++ marks))) (append_assoc set (true ∷ []) unset) further),
      )
  telling front (member ∷ rest) set (false ∷ marks) is size same was leads =
      let unset = replicate (length marks) false in
      let further = telling (front ++ member ∷ []) rest (set ++ false ∷ []) marks (is ∙ sym (append_assoc front (member ∷ []) rest)) (length-append set (false ∷ []) ∙ ap (λ (n : ℕ). n + 1) size ∙ sym (length-append front (member ∷ []))) (omega (arith, same)) was leads in
      subst (λ (all : List Bool). Replays greatest (at was (set ++ false ∷ unset)) (news name number leader rest marks) (at (led was leader marks) all)) (append_assoc set (false ∷ []) marks)
      (subst (λ (all : List Bool). Replays greatest (at was all) (news name number leader rest marks) (at (led was leader marks) ((set ++ false ∷ []) ++ marks))) (append_assoc set (false ∷ []) unset) further)

  -- all members that are informed come to know it
  pub all_told : (marks : List Bool) (position : ℕ) → length marks ≡ length ring → slice_get marks position ≡ Some true
      → Replays greatest (at None (replicate (length ring) false)) (news name number leader ring marks) (at (Some leader) marks)
  all_told marks position same set =
      subst (λ (was : Option ℕ). Replays greatest (at None (replicate (length ring) false)) (news name number leader ring marks) (at was marks)) (led_once leader marks position set)
      (subst (λ (n : ℕ). Replays greatest (at None (replicate n false)) (news name number leader ring marks) (at (led None leader marks) marks)) same
      (telling [] ring [] marks refl refl same None named))
