-- The value has a text, which reads back.
use Rattle.ring_http.proofs.Plain.{groups_flat}
use Rattle.ring_http.proofs.values.put_names.Goals as goal

pub put_line-requires : goal.put_line-requires
put_line-requires c =
    let flat = groups_flat c.args.place c.args.names.now in
    record {
      plain = rw c.in_ok-value.ensures flat.plain;
      shallow = rw c.in_ok-value.ensures flat.shallow;
    }
