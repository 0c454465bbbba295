use Rattle.ring_http.proofs.Words.{name_utf8}
use Rattle.ring_http.proofs.values.group_to_json.Goals as goal

pub text_of-requires : goal.text_of-requires
text_of-requires c = name_utf8 _ c.bytes.ensures.name
