-- All groups were answered for, or there is a reason.
use Rattle.std.proofs.Common.{inl, refl}
use Rattle.ring_http.proofs.Ending.{says_put}
use Rattle.ring_http.proofs.asking.Asker.show_metrics.Goals as goal

pub returns-in-Ok-clause-shows : goal.returns-in-Ok-clause-shows
returns-in-Ok-clause-shows g c =
    let all = c.in-Ok.ensures.ok in
    inl
    (record {
      names = all.names;
      mid = all.mid;
      listed = all.listed;
      groups = c.in-Ok.groups.items;
      each = rw c.settle.ensures.entries all.each;
      figures = c.figures.result;
      placed = c.in-Ok.ensures.placed;
      says = says_put c.put_metrics-done.result _ 200 _ _ _ _ c.args.response.now c.end.new.response c.requires.begun refl c.kind_in.ensures.value (rw c.deref.ensures.value at c.put_metrics-done.ensures) c.end.ensures.ok c.end.ensures.err;
    })
