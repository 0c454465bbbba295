-- What a reply says to a request with a condition.
use Rattle.std.specs.Prelude.{◌≡◌, option_map}
use Rattle.serde_json.specs.Data.{Data}
use Rattle.ring_etcd.specs.declared.replies.Said.{Said}
use Rattle.ring_etcd.specs.declared.replies.Said.TheVariants.{Done, Found}
use Rattle.ring_etcd.specs.Done.{IsDone}
use Rattle.ring_etcd.specs.Found.{entry_in}
use Rattle.ring_etcd.specs.private.Replies.{base_in}

-- The reply says that the request was carried out, or it has what was found in its place.
abbrev pub Says : Data → Said → Type 0
Says reply Done = IsDone reply
Says reply (Found entry base) =
    (option_map (λ bytes. bytes.items) entry ≡ entry_in reply)
    × (option_map (λ bytes. bytes.items) base ≡ base_in reply)
