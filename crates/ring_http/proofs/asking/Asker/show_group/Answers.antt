-- A group was answered for, or there is a reason.
use Rattle.std.proofs.Common.{inl, refl}
use Rattle.ring_http.proofs.Ending.{json_put}
use Rattle.ring_http.proofs.asking.Asker.show_group.Goals as goal

pub returns-in-Ok-clause-shows : goal.returns-in-Ok-clause-shows
returns-in-Ok-clause-shows g c =
    let watched = c.in-Ok.ensures.ok in
    inl
    (record {
      mid = watched.mid;
      earlier = watched.earlier;
      group = c.in-Ok.group;
      named = watched.named;
      pictured = rw c.settle.ensures.entries watched.last;
      placed = c.in-Ok.ensures.placed;
      says = json_put c.put_group-done.result _ _ _ _ c.args.response.now c.end.new.response c.requires.begun refl c.kind_in.ensures.value c.put_group-done.ensures.text c.put_group-done.ensures.reads c.end.ensures.ok c.end.ensures.err;
    })
