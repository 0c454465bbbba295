-- The value has a text, which reads back.
use Rattle.ring_http.proofs.Plain.{group_flat}
use Rattle.ring_http.proofs.values.put_group.Goals as goal

pub put_line-requires : goal.put_line-requires
put_line-requires c =
    let flat = group_flat c.args.place c.args.group.now in
    record {
      plain = rw c.in_ok-value.ensures flat.plain;
      shallow = rw c.in_ok-value.ensures flat.shallow;
    }
