-- The lines of a journal are those of one list of changes, so a restart recovers the changes that
-- were left.
use Rattle.std.proofs.Common.{◌≡◌, ◌+◌, ℕ, List, [], ◌∷◌, All, take, drop, inl, inr, refl, ap, sym, ◌∙◌, subst, arith}
use Rattle.std.proofs.lemmas.Fmt.{decimal_injective}
use Rattle.std.proofs.lemmas.List.Elements.{All-head, All-tail}
use Rattle.ring_any.specs.Any.{any_greatest, any_two_way}
use Rattle.ring_any.specs.declared.any.Any.{Any}
use Rattle.ring_grammar.specs.OneSpelling.{HaveOneSpelling}
use Rattle.ring_journal.specs.Lines.{lines_in}
use Rattle.std.specs.Fmt.{decimal}
use Rattle.ring_change.specs.Checks.{check_after, check_mark, first_check}
use Rattle.ring_change.specs.Lines.{check_behind}
use Rattle.ring_change.specs.declared.change.Change.{Change}
use Rattle.ring_change.specs.Spelling.{IsChange, SpellsChange}
use Rattle.ring_lives.specs.Changes.{changes_of}
use Rattle.ring_lives.specs.Replays.{AreExact, HaveTheirEffect, Replays}
use Rattle.ring_recovery.specs.JournalLines.{heading, heading_words, journal_lines, life_word, marked_lines}
use Rattle.ring_recovery.specs.Life.{IsLife}
use Rattle.ring_recovery.specs.Recovered.{HasChanges}
use Rattle.ring_recovery.specs.Restarts.{RestartsAfterFirst}
use Rattle.ring_recovery.specs.private.Reading.{after_first, first_of}
use Rattle.ring_recovery.proofs.Headed.{zeros_no_lines}
use Rattle.ring_recovery.proofs.Spelling.{mark_long, one_marked, same_front}

module _ (law : HaveOneSpelling IsChange SpellsChange) where
  one_list : (check : ℕ) (a b : List (Change Any)) → All IsChange a → All IsChange b → marked_lines check a ≡ marked_lines check b → a ≡ b
  one_list check [] [] legal_a legal_b same = refl
  one_list check [] (y ∷ b) legal_a legal_b same = cc
  one_list check (x ∷ a) [] legal_a legal_b same = cc
  one_list check (x ∷ a) (y ∷ b) legal_a legal_b same =
      let head : x ≡ y = one_marked law check x y (All-head IsChange x a legal_a) (All-head IsChange y b legal_b) (cc) in
      let rest : marked_lines (check_behind check x) a ≡ marked_lines (check_behind check y) b = cc in
      let tail : a ≡ b = one_list (check_behind check x) a b (All-tail IsChange x a legal_a) (All-tail IsChange y b legal_b) (rest ∙ ap (λ (z : Change Any). marked_lines (check_behind check z) b) (sym head)) in
      cc

  -- the check of a first line, and its mark
  abbrev check_of_life : ℕ → ℕ
  check_of_life life = check_after (check_after first_check heading_words) (decimal life)

  abbrev mark_of : ℕ → List ℕ
  mark_of life = check_mark (check_of_life life)

  -- the first lines of two lives differ
  one_life : (a b : ℕ) → IsLife a → IsLife b → heading a ≡ heading b → a ≡ b
  one_life a b counted_a counted_b same =
      let word : life_word a ≡ life_word b = ap (drop 21) same in
      let number = same_front (decimal a) (decimal b) (mark_of a) (mark_of b) word (mark_long (check_of_life a) ∙ sym (mark_long (check_of_life b))) in
      decimal_injective a b (omega (arith, counted_a.1)) (omega (arith, counted_b.1)) number

  one_journal : (x y : ℕ) (a b : List (Change Any)) → IsLife x → IsLife y → All IsChange a → All IsChange b → journal_lines x a ≡ journal_lines y b → (x ≡ y) × (a ≡ b)
  one_journal x y a b counted_x counted_y legal_a legal_b same = (one_life x y counted_x counted_y (ap first_of same), one_list first_check a b legal_a legal_b (ap after_first same))

  same_changes : (found : List ℕ) (x y : ℕ) (a b : List (Change Any)) → IsLife y → All IsChange a → All IsChange b → HasChanges found x a → lines_in found ≡ journal_lines y b → (x ≡ y) × (a ≡ b)
  same_changes found x y a b counted legal_a legal_b (inl lines) are = one_journal x y a b lines.0 counted legal_a legal_b (sym lines.1 ∙ are)
  same_changes found x y a b counted legal_a legal_b (inr none) are = let empty : lines_in found ≡ [] = zeros_no_lines found none.0 in absurd (cc)

  pub restarts : HaveTheirEffect any_two_way any_greatest → AreExact any_greatest → RestartsAfterFirst
  restarts effect exact life entries fewest found recovered finds recovers =
      let same = same_changes found recovers.lives life (changes_of recovered.history) finds.lines.changes finds.counted recovers.legal finds.lines.legal recovers.found_changes finds.lines.are in
      let leads : Replays any_greatest [] (changes_of (take finds.left entries)) recovered.book =
      (finds.lines.alike recovered.book).0 (subst (λ (changes : List (Change Any)). Replays any_greatest [] changes recovered.book) same.1 recovers.book) in
      record {
        next = recovers.next ∙ ap (λ (n : ℕ). n + 1) same.0;
        left = finds.left;
        least = finds.least;
        most = finds.most;
        leads = leads;
        groups = λ groups legal. exact (changes_of (take finds.left entries)) [] recovered.book groups leads (effect (take finds.left entries) [] groups legal);
      }
