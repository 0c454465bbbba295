-- At each exit the same lines are written or pending, so a restart finds the first of them.
use Rattle.std.proofs.lemmas.Grind.{common_steps}
use Rattle.std.proofs.Common.{◌++◌, length, refl, ap, ◌∙◌, sym, append-nil, arith}
use Rattle.ring_journal.proofs.Settling.{crash_finds, near_batch, near_same, settled_journal}
use Rattle.ring_journal.proofs.journal.Journal.settle.Goals as goal

pub returns-then-self-clause-any_moment : goal.returns-then-self-clause-any_moment
returns-then-self-clause-any_moment g c =
    rw (← c.self.view_is) (λ m from to found find. crash_finds _ _ _ c.self.invariant _ _ refl (near_same _ _ _ c.self.invariant _ refl) m from to found find)

pub returns-then-is_empty-clause-any_moment : goal.returns-then-is_empty-clause-any_moment
returns-then-is_empty-clause-any_moment g c =
    rw (← c.self.view_is) (λ m from to found find. crash_finds _ _ _ c.self.invariant _ _ refl (near_same _ _ _ c.self.invariant _ refl) m from to found find)

pub returns-in-Err-NoMemory-clause-any_moment : goal.returns-in-Err-NoMemory-clause-any_moment
returns-in-Err-NoMemory-clause-any_moment g c =
    let text = rw c.in-Err-NoMemory.field-0-is at c.in-Err-NoMemory.ensures.text in
    rw (← c.self.view_is) (λ m from to found find. crash_finds _ _ _ c.self.invariant _ _ (ap (λ t. t ++ c.self.inside.batch.bytes) text) (near_same _ _ _ c.self.invariant _ text) m from to found find)

pub returns-in-Err-Failed-clause-any_moment : goal.returns-in-Err-Failed-clause-any_moment
returns-in-Err-Failed-clause-any_moment g c =
    let text = rw c.in-Err-Failed.field-0-is at c.in-Err-Failed.ensures.text in
    let j = rw c.if-self.false at c.self.invariant in
    rw (← c.self.view_is) (λ m from to found find. crash_finds _ _ _ c.self.invariant _ c.clear.new.self.bytes (ap (λ r. (g.D.Medium.moment c.append.new.self).text ++ r) c.clear.ensures.bytes ∙ append-nil _ ∙ text) (near_batch _ _ j _ text) m from to found find)

pub invariant_of-self-in-Ok-sync : goal.invariant_of-self-in-Ok-sync
invariant_of-self-in-Ok-sync g c =
    settled_journal _ _ _ _ c.self.invariant _ _ c.clear-in-Ok.ensures.bytes (c.in-Ok-sync.ensures.text ∙ c.in-Ok.ensures.text) (c.in-Ok-sync.ensures.kept ∙ ap (λ t. length t) (sym c.in-Ok-sync.ensures.text))

pub returns-in-Ok-sync-clause-any_moment : goal.returns-in-Ok-sync-clause-any_moment
returns-in-Ok-sync-clause-any_moment g c =
    let j = rw c.if-self.false at c.self.invariant in
    let text = c.in-Ok-sync.ensures.text ∙ c.in-Ok.ensures.text in
    rw (← c.self.view_is) (λ m from to found find. crash_finds _ _ _ c.self.invariant _ c.clear-in-Ok.new.self.bytes (ap (λ r. (g.D.Medium.moment c.sync.new.self).text ++ r) c.clear-in-Ok.ensures.bytes ∙ append-nil _ ∙ text) (near_batch _ _ j _ text) m from to found find)

pub returns-in-Err-clause-any_moment : goal.returns-in-Err-clause-any_moment
returns-in-Err-clause-any_moment g c =
    let j = rw c.if-self.false at c.self.invariant in
    let text = c.in-Err.ensures.text ∙ c.in-Ok.ensures.text in
    rw (← c.self.view_is) (λ m from to found find. crash_finds _ _ _ c.self.invariant _ c.clear-in-Ok.new.self.bytes (ap (λ r. (g.D.Medium.moment c.sync.new.self).text ++ r) c.clear-in-Ok.ensures.bytes ∙ append-nil _ ∙ text) (near_batch _ _ j _ text) m from to found find)

pub invariant_of-self-in-Err : goal.invariant_of-self-in-Err
invariant_of-self-in-Err g c = grind (arith, common_steps)
