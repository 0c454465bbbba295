-- A life ends and the next begins with the same groups.
use Rattle.std.proofs.Common.{Bool, List, [], ◌∷◌, ◌++◌, refl, subst}
use Rattle.ring_terms.specs.Object.{Object}
use Rattle.ring_table.specs.Histories.{Follows, IsLegal}
use Rattle.ring_table.specs.declared.entry.Entry.{Entry}
use Rattle.ring_lives.specs.Lives.{AreOneRun, Life, Succeed, TellOneLeader, all_kept, kept}
use Rattle.ring_lives.proofs.Beginning.{alike_at_first, begin_with_all, begins_with, left_legal, opened}
use Rattle.ring_lives.proofs.Parting.{joined}
use Rattle.ring_lives.proofs.Telling.{told_in, told_kept}
use Rattle.ring_lives.proofs.Leading.{legal_names_one}

module _ {E : Type 0} (two_way greatest : E → Bool) where
  -- Lives that succeed a history which leads to this object go on from it.
  pub go_on : (lives : List (Life E)) (before : List (Entry E)) (at : Object E) → IsLegal two_way greatest before at → Succeed two_way greatest before lives
      → (book : Object E) × Follows two_way greatest at (all_kept lives) book
  go_on [] before at legal succeed = (at, refl)
  go_on (life ∷ lives) before at legal succeed =
      let o = opened two_way greatest life succeed.0 in
      let same = begins_with two_way greatest life o before at legal succeed.1 in
      let rest = go_on lives (life.opening ++ kept life) o.ended (left_legal two_way greatest life o) succeed.2 in
      (rest.0, joined two_way greatest (kept life) (all_kept lives) at o.ended rest.0 (subst (λ (m : Object E). Follows two_way greatest m (kept life) o.ended) same o.after) rest.1)

  -- all lives are one run
  pub one_run : AreOneRun two_way greatest
  one_run lives succeed =
      let run = go_on lives [] [] refl succeed in
      record { book = run.0; legal = run.1; told = told_in two_way greatest lives [] [] succeed; begun = begin_with_all two_way greatest lives [] [] (alike_at_first two_way greatest) succeed }

  -- clients got one leader of a term
  pub told_one_leader : TellOneLeader two_way greatest
  told_one_leader lives succeed group term a b first second i j names_a names_b =
      let run = go_on lives [] [] refl succeed in
      legal_names_one two_way greatest (all_kept lives) run.0 run.1 group term a b first second
      (told_kept two_way greatest lives [] first succeed i) (told_kept two_way greatest lives [] second succeed j) names_a names_b
