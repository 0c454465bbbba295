-- The terms were answered, or there is a reason.
use Rattle.std.proofs.Common.{◌∙◌, inl, inr}
use Rattle.ring_http.proofs.Ending.{says_any}
use Rattle.ring_http.proofs.asking.Asker.show_picture.Goals as goal

pub returns-in-Ok-clause-shows : goal.returns-in-Ok-clause-shows
returns-in-Ok-clause-shows g c =
    inr
    (inl
    (record {
      leaders = c.in-Ok.terms;
      gained = c.settle.ensures.entries ∙ c.in-Ok.ensures.asks;
      placed = c.in-Ok.ensures.placed;
      picture = _;
      says = says_any c.put_election-done.result _ _ _ _ c.end.new.response c.requires.begun.status c.kind_in.ensures.value c.end.ensures.ok c.end.ensures.err;
    }))
