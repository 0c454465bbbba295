-- The lines of changes that were listed, and those that are left.
use Rattle.std.proofs.Common.{◌≡◌, ◌∙◌, ℕ, List, [], ◌∷◌, ◌++◌, All, Bor, Option, None, Some, ap, refl, sym}
use Rattle.std.specs.Iterator.{YieldsFirstRef}
use Rattle.std.proofs.lemmas.List.{append-nil, append_assoc}
use Rattle.std.proofs.lemmas.List.Elements.{All-head, All-tail}
use Rattle.ring_any.specs.declared.any.Any.{Any}
use Rattle.ring_change.specs.declared.change.Change.{Change}
use Rattle.ring_change.specs.Lines.{check_behind, marked_line}
use Rattle.ring_change.specs.Spelling.{IsChange}
use Rattle.ring_recovery.specs.Listing.{change_text, groups_text}
use Rattle.ring_recovery.specs.JournalLines.{marked_lines}
use Rattle.ring_terms.specs.Object.{Object}

-- The lines that are left are those of the last of these changes, and the text was that of the
-- others.
pub record IsBehind (book : Object Any) (old : List ℕ) (changes : List (Change Any)) (check : ℕ) (left : List (List ℕ)) (text : List ℕ) : Type 0 where
  pub done : List (Change Any)
  pub rest : List (Change Any)
  pub all : changes ≡ done ++ rest
  pub lines : left ≡ marked_lines check rest
  pub legal : All IsChange rest
  pub listed : text ≡ old ++ groups_text book done

-- the text of changes and then one more
groups_text-push : (book : Object Any) (changes : List (Change Any)) (change : Change Any) → groups_text book (changes ++ change ∷ []) ≡ groups_text book changes ++ change_text book change
groups_text-push book [] change = append-nil (change_text book change)
groups_text-push book (first ∷ changes) change = ap (λ (text : List ℕ). change_text book first ++ text) (groups_text-push book changes change) ∙ sym (append_assoc (change_text book first) (groups_text book changes) (change_text book change))

module _ (book : Object Any) (old : List ℕ) (changes : List (Change Any)) where
  -- at first nothing was listed
  pub none_behind : (check : ℕ) (left : List (List ℕ)) → left ≡ marked_lines check changes → All IsChange changes → IsBehind book old changes check left old
  none_behind check left lines legal = record { done = []; rest = changes; all = refl; lines = lines; legal = legal; listed = sym (append-nil old) }

  -- one more line
  pub one_behind : (check next : ℕ) (line : List ℕ) (left : List (List ℕ)) (text now : List ℕ) → IsBehind book old changes check (line ∷ left) text
      → ((change : Change Any) → IsChange change → line ≡ marked_line check change → next ≡ check_behind check change)
      → ((change : Change Any) → IsChange change → line ≡ marked_line check change → now ≡ text ++ change_text book change)
      → IsBehind book old changes next left now
  one_behind check next line left text now behind checked listed = go behind.rest behind.all behind.lines behind.legal
    where
      go : (rest : List (Change Any)) → changes ≡ behind.done ++ rest → line ∷ left ≡ marked_lines check rest → All IsChange rest → IsBehind book old changes next left now
      go [] all lines legal = absurd (cc)
      go (change ∷ rest) all lines legal =
          let is : line ≡ marked_line check change = cc in
          let others : left ≡ marked_lines (check_behind check change) rest = cc in
          let fine = All-head IsChange change rest legal in
          let further : next ≡ check_behind check change = checked change fine is in
          record {
            done = behind.done ++ change ∷ [];
            rest = rest;
            all = all ∙ sym (append_assoc behind.done (change ∷ []) rest);
            lines = others ∙ ap (λ (n : ℕ). marked_lines n rest) (sym further);
            legal = All-tail IsChange change rest legal;
            listed =
                listed change fine is ∙ ap (λ (t : List ℕ). t ++ change_text book change) behind.listed ∙ append_assoc old (groups_text book behind.done) (change_text book change)
                ∙ ap (λ (t : List ℕ). old ++ t) (sym (groups_text-push book behind.done change));
          }

  -- at the end all was listed
  pub all_behind : (check : ℕ) (text : List ℕ) → IsBehind book old changes check [] text → text ≡ old ++ groups_text book changes
  all_behind check text behind = go behind.rest behind.all behind.lines
    where
      go : (rest : List (Change Any)) → changes ≡ behind.done ++ rest → [] ≡ marked_lines check rest → text ≡ old ++ groups_text book changes
      go [] all lines = behind.listed ∙ ap (λ (c : List (Change Any)). old ++ groups_text book c) (sym (all ∙ append-nil behind.done))
      go (change ∷ rest) all lines = absurd (cc)

-- the lines that are left after the first one
pub without_first : (first : List ℕ) (rest old new : List (List ℕ)) (item : Option (Bor (List ℕ))) → old ≡ first ∷ rest → YieldsFirstRef (λ (left : List (List ℕ)). left) old item new → new ≡ rest
without_first first rest old new None is yields = absurd (cc)
without_first first rest old new (Some line) is yields = cc
