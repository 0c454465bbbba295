use Rattle.ring_http.proofs.Words.{word_utf8}
use Rattle.ring_http.proofs.values.algorithm_to_json.Goals as goal

pub text_of-requires : goal.text_of-requires
text_of-requires c = rw c.word.ensures (word_utf8 _)
