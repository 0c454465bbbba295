-- The names were answered, or there is a reason.
use Rattle.std.proofs.Common.{◌∙◌, inl, refl}
use Rattle.ring_http.proofs.Ending.{json_put}
use Rattle.ring_http.proofs.asking.Asker.show_groups.Goals as goal

pub returns-in-Ok-clause-shows : goal.returns-in-Ok-clause-shows
returns-in-Ok-clause-shows g c =
    inl
    (record {
      names = c.in-Ok.names;
      gained = c.settle.ensures.entries ∙ c.in-Ok.ensures.asks;
      placed = c.in-Ok.ensures.placed;
      says = json_put c.put_names-done.result _ _ _ _ c.args.response.now c.end.new.response c.requires.begun refl c.kind_in.ensures.value (rw c.as_slice.ensures at c.put_names-done.ensures.text) (rw c.as_slice.ensures at c.put_names-done.ensures.reads) c.end.ensures.ok c.end.ensures.err;
    })
