-- The word and the count of a refusal.
use Rattle.ring_http.proofs.figures.put_refusal_count.Goals as goal

pub returns : goal.returns
returns c = rw c.word.ensures at (rw c.count_of-count.ensures at c.put_labelled.ensures)
