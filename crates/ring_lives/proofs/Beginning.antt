-- Histories that lead to the same groups, and the groups that lives begin with.
use Rattle.std.proofs.Common.{◌≡◌, Bool, List, [], ◌∷◌, ◌++◌, drop, refl, ap, sym, ◌∙◌, subst, append_assoc}
use Rattle.std.proofs.lemmas.List.{take-append-drop}
use Rattle.ring_terms.specs.Object.{Object}
use Rattle.ring_table.specs.Histories.{Follows, IsLegal}
use Rattle.ring_table.specs.declared.entry.Entry.{Entry}
use Rattle.ring_change.specs.declared.change.Change.{Change}
use Rattle.ring_lives.specs.Changes.{changes_of}
use Rattle.ring_lives.specs.Lives.{BeginWithAll, IsLife, Life, MayBeExact, Succeed, SucceedExactly, kept}
use Rattle.ring_lives.specs.Replays.{LeadAlike, Replays}
use Rattle.ring_lives.proofs.Parting.{joined, parted}
use Rattle.ring_lives.proofs.Replaying.{follows_replays, replays_exact}
use Rattle.ring_lives.proofs.Telling.{changes_of-append}

-- changes, and then others
replays_more : {E : Type 0} (greatest : E → Bool) (first second : List (Change E)) (old mid new : Object E) → Replays greatest old first mid → Replays greatest mid second new → Replays greatest old (first ++ second) new
replays_more {E} greatest [] second old mid new before after = subst (λ (m : Object E). Replays greatest m second new) before after
replays_more greatest (one ∷ first) second old mid new before after = (before.0, before.1, replays_more greatest first second before.0 mid new before.2 after)

module _ {E : Type 0} (two_way greatest : E → Bool) where
  -- two histories without entries
  pub alike_at_first : LeadAlike greatest [] []
  alike_at_first = record { groups = []; by_first = refl; by_second = refl }

  -- of three histories, the first and the last
  alike_both : (a b c : List (Entry E)) → LeadAlike greatest a b → LeadAlike greatest b c → LeadAlike greatest a c
  alike_both a b c f g =
      let same : g.groups ≡ f.groups = replays_exact greatest (changes_of b) [] g.groups f.groups g.by_first f.by_second in
      record { groups = f.groups; by_first = f.by_first; by_second = subst (λ (groups : Object E). Replays greatest [] (changes_of c) groups) same g.by_second }

  -- the groups of a life, as it was opened and as a crash left it
  pub record Opened (life : Life E) : Type 0 where
    pub begun : Object E
    pub ended : Object E
    pub before : Follows two_way greatest [] life.opening begun
    pub after : Follows two_way greatest begun (kept life) ended

  pub opened : (life : Life E) → IsLife two_way greatest life → Opened life
  opened life is =
      let whole : life.opening ++ life.log ≡ (life.opening ++ kept life) ++ drop life.left life.log =
      ap (λ (l : List (Entry E)). life.opening ++ l) (sym (take-append-drop life.left life.log)) ∙ sym (append_assoc life.opening (kept life) (drop life.left life.log)) in
      let cut = parted two_way greatest (life.opening ++ kept life) (drop life.left life.log) [] is.book (subst (λ (l : List (Entry E)). Follows two_way greatest [] l is.book) whole is.legal) in
      let start = parted two_way greatest life.opening (kept life) [] cut.mid cut.before in
      record { begun = start.mid; ended = cut.mid; before = start.before; after = start.after }

  -- the entries that are left of a life are a legal history
  pub left_legal : (life : Life E) (o : Opened life) → IsLegal two_way greatest (life.opening ++ kept life) o.ended
  left_legal life o = joined two_way greatest life.opening (kept life) [] o.begun o.ended o.before o.after

  -- a life begins with the groups that it would begin with if it were opened with other entries
  pub begins_with : (life : Life E) (o : Opened life) (before : List (Entry E)) (at : Object E) → IsLegal two_way greatest before at → LeadAlike greatest life.opening before → o.begun ≡ at
  begins_with life o before at legal alike =
      replays_exact greatest (changes_of life.opening) [] o.begun alike.groups (follows_replays two_way greatest life.opening [] o.begun o.before) alike.by_first
      ∙ replays_exact greatest (changes_of before) [] alike.groups at alike.by_second (follows_replays two_way greatest before [] at legal)

  -- a life ends with the groups that it would end with if it were opened with other entries
  alike_after : (life : Life E) (o : Opened life) (before : List (Entry E)) → LeadAlike greatest life.opening before → LeadAlike greatest (life.opening ++ kept life) (before ++ kept life)
  alike_after life o before alike =
      let same : alike.groups ≡ o.begun = replays_exact greatest (changes_of life.opening) [] alike.groups o.begun alike.by_first (follows_replays two_way greatest life.opening [] o.begun o.before) in
      let first = subst (λ (groups : Object E). Replays greatest [] (changes_of before) groups) same alike.by_second in
      record {
        groups = o.ended;
        by_first = follows_replays two_way greatest (life.opening ++ kept life) [] o.ended (left_legal life o);
        by_second = subst (λ (changes : List (Change E)). Replays greatest [] changes o.ended) (sym (changes_of-append before (kept life)))
            (replays_more greatest (changes_of before) (changes_of (kept life)) [] o.begun o.ended first (follows_replays two_way greatest (kept life) o.begun o.ended o.after));
      }

  -- lives begin with the groups that all entries that were left before them lead to
  pub begin_with_all : (lives : List (Life E)) (before found : List (Entry E)) → LeadAlike greatest found before → Succeed two_way greatest found lives → BeginWithAll two_way greatest before lives
  begin_with_all [] before found alike succeed = tt
  begin_with_all (life ∷ lives) before found alike succeed =
      let both = alike_both life.opening found before succeed.1 alike in
      (both, begin_with_all lives (before ++ kept life) (life.opening ++ kept life) (alike_after life (opened life succeed.0) before both) succeed.2)

  -- if lives begin with the very changes before them, each succeeds the one before it
  exactly : (lives : List (Life E)) (before : List (Entry E)) (at : Object E) → IsLegal two_way greatest before at → SucceedExactly two_way greatest before lives → Succeed two_way greatest before lives
  exactly [] before at legal succeed = tt
  exactly (life ∷ lives) before at legal succeed =
      let o = opened life succeed.0 in
      let replays = follows_replays two_way greatest before [] at legal in
      let alike : LeadAlike greatest life.opening before = record { groups = at; by_first = subst (λ (changes : List (Change E)). Replays greatest [] changes at) (sym succeed.1) replays; by_second = replays } in
      (succeed.0, alike, exactly lives (life.opening ++ kept life) o.ended (left_legal life o) succeed.2)

  pub may_be_exact : MayBeExact two_way greatest
  may_be_exact lives succeed = exactly lives [] [] refl succeed
