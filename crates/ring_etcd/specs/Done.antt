-- What a reply of the gateway says of a request with conditions.
use Rattle.std.specs.Prelude.{◌≡◌, true, Some, codes, option_and_then}
use Rattle.serde_json.specs.Data.{Data}
use Rattle.serde_json.specs.Find.{as_bool, pointer}

-- The conditions of the request held, so it was carried out.
abbrev pub IsDone : Data → Type 0
IsDone reply = option_and_then as_bool (pointer (codes "/succeeded") reply) ≡ Some true
