-- The lines after the heading of the file are those of the changes.
use Rattle.std.proofs.Common.{List, ◌∷◌, ℕ, ◌∙◌, ap}
use Rattle.ring_recovery.specs.JournalLines.{heading}
use Rattle.ring_recovery.proofs.Headed.{after_changes}
use Rattle.ring_recovery.proofs.recovery.finish.Goals as goal

pub new-requires-clause-text : goal.new-requires-clause-text
new-requires-clause-text c = record {
  whole = c.in-Ok.ensures.whole;
  lines = c.in-Ok.ensures.lines ∙ ap (λ (lines : List (List ℕ)). heading c.args.said.life ∷ lines) (after_changes c.args.found.items c.requires.lives _ c.requires.changes);
}

pub returns-in-Ok-clause-ok : goal.returns-in-Ok-clause-ok
returns-in-Ok-clause-ok c =
    rw c.new.ensures (record {
      lives = c.requires.lives;
      next = c.requires.next;
      found_changes = c.requires.changes;
      legal = c.requires.legal;
      text = record {
        whole = c.in-Ok.ensures.whole;
        lines = c.in-Ok.ensures.lines ∙ ap (λ (lines : List (List ℕ)). heading c.args.said.life ∷ lines) (after_changes c.args.found.items c.requires.lives _ c.requires.changes);
      };
      history = c.count.ensures.legal;
      book = c.follows_replays.ensures c.args.table.history _ c.args.table.book c.count.ensures.legal;
      replayed = c.requires.replayed;
    })
