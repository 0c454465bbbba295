-- What a reply of the gateway says.
use Rattle.std.specs.Prelude.{◌≡◌, ◌⊎◌, ℕ, List, Option, Some, None, codes, option_and_then}
use Rattle.std.specs.Str.Parse.{digits_value, without_leading_plus}
use Rattle.serde_json.specs.Data.{Data}
use Rattle.serde_json.specs.Find.{as_str, pointer}
use Rattle.ring_etcd.specs.Found.{bytes_at}

-- the value of the base, if the condition did not hold
abbrev pub base_in : Data → Option (List ℕ)
base_in = bytes_at (codes "/responses/1/response_range/kvs/0/value")

-- The key that was read has this value, or nothing is there.
abbrev pub IsValue : Data → Option (List ℕ) → Type 0
IsValue reply None = pointer (codes "/kvs/0") reply ≡ None
IsValue reply (Some value) = bytes_at (codes "/kvs/0/value") reply ≡ Some value

-- The reply has this revision at a place.
pub record IsRevisionAt (path : List ℕ) (reply : Data) (revision : ℕ) : Type 0 where
  pub text : List ℕ
  pub has : option_and_then as_str (pointer path reply) ≡ Some text
  pub is : digits_value 10 (without_leading_plus text) ≡ revision

-- the reply has this revision
abbrev pub IsRevision : Data → ℕ → Type 0
IsRevision = IsRevisionAt (codes "/header/revision")

-- The key that was read was last put at this revision, or nothing is there and the revision is 0.
abbrev pub IsSeen : Data → ℕ → Type 0
IsSeen reply revision =
    IsRevisionAt (codes "/kvs/0/mod_revision") reply revision
    ⊎ ((pointer (codes "/kvs/0") reply ≡ None) × (revision ≡ 0))
