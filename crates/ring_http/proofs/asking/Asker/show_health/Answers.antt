-- A question was answered, or there is a reason.
use Rattle.std.proofs.Common.{◌∙◌, inl, refl}
use Rattle.ring_http.proofs.Ending.{says_put}
use Rattle.ring_http.proofs.asking.Asker.show_health.Goals as goal

pub returns-in-Ok-clause-shows : goal.returns-in-Ok-clause-shows
returns-in-Ok-clause-shows g c =
    inl
    (record {
      names = c.in-Ok.names;
      gained = c.settle.ensures.entries ∙ c.in-Ok.ensures.asks;
      placed = c.in-Ok.ensures.placed;
      says = says_put c.put-done.result _ 200 _ _ _ _ c.args.response.now c.end.new.response c.requires.begun refl c.kind_in.ensures.value c.put-done.ensures c.end.ensures.ok c.end.ensures.err;
    })
