-- Until the new text is in its place, a restart finds the lines from before. After that it finds
-- all lines of the new text.
use Rattle.std.proofs.Common.{length, refl, ap, ◌∙◌, sym, rules}
use Rattle.ring_journal.proofs.Settling.{crash_finds, finds_all, near_same, new_journal}
use Rattle.ring_journal.proofs.journal.Journal.replace.Goals as goal

pub returns-then-self-clause-any_moment : goal.returns-then-self-clause-any_moment
returns-then-self-clause-any_moment g c = record {
  before = rw (← c.self.view_is) (λ m from to found find. crash_finds _ _ _ c.self.invariant _ _ refl (near_same _ _ _ c.self.invariant _ refl) m from to found find);
  after = finds_all _ c.requires;
}

pub returns-in-Ok-clause-any_moment : goal.returns-in-Ok-clause-any_moment
returns-in-Ok-clause-any_moment g c = record {
  before = rw (← c.self.view_is) (λ m from to found find. crash_finds _ _ _ c.self.invariant _ _ refl (near_same _ _ _ c.self.invariant _ refl) m from to found find);
  after = finds_all _ c.requires;
}

pub returns-in-Err-NoMemory-clause-any_moment : goal.returns-in-Err-NoMemory-clause-any_moment
returns-in-Err-NoMemory-clause-any_moment g c = record {
  before = rw (← c.self.view_is) (λ m from to found find. crash_finds _ _ _ c.self.invariant _ _ refl (near_same _ _ _ c.self.invariant _ refl) m from to found find);
  after = finds_all _ c.requires;
}

pub returns-in-Err-Failed-clause-any_moment : goal.returns-in-Err-Failed-clause-any_moment
returns-in-Err-Failed-clause-any_moment g c = record {
  before = rw (← c.self.view_is) (λ m from to found find. crash_finds _ _ _ c.self.invariant _ _ refl (near_same _ _ _ c.self.invariant _ refl) m from to found find);
  after = finds_all _ c.requires;
}

pub invariant_of-self : goal.invariant_of-self
invariant_of-self g c = rw (c.if-self.false, c.in-Ok.ensures) (new_journal _ _ c.clear.ensures.bytes c.requires refl)

pub returns-in-Err-Failed-clause-failed : goal.returns-in-Err-Failed-clause-failed
returns-in-Err-Failed-clause-failed g c = search rules

pub returns-in-Ok-clause-lines : goal.returns-in-Ok-clause-lines
returns-in-Ok-clause-lines g c = search rules
