-- The changes of the shorter history lead to its book, and to the book of the longer one. So these are the same.
use Rattle.std.proofs.Common.{◌∙◌, rules, arith}
use Rattle.ring_recovery.proofs.recovered.Recovered.compacted.Goals as goal

pub rebuilt-requires : goal.rebuilt-requires
rebuilt-requires c = search rules

pub returns-in-Ok-rebuilt : goal.returns-in-Ok-rebuilt
returns-in-Ok-rebuilt c =
    let leads = c.follows_replays.ensures _ _ _ c.text-short_text.ensures.legal in
    record {
      same = c.replays_exact.ensures _ _ _ _ (rw (c.in-Ok-rebuilt.ensures.made ∙ c.deref.ensures.value) at leads) c.in-Ok.ensures.leads ∙ c.book.ensures;
      life = c.in-Ok-rebuilt.ensures.begins ∙ c.life.ensures;
      fewer = omega (arith, c.in-Ok-rebuilt.ensures.each, c.deref.ensures.len, c.len.ensures, c.count.ensures, c.if-len-count.false);
      legal = c.text-short_text.ensures.changes;
      text = c.text-short_text.ensures.lines;
      history = c.text-short_text.ensures.legal;
      book = leads;
      replayed = λ _. c.in-Ok-rebuilt.ensures.replayed;
    }
