-- A reply that differs from the last is written.
use Rattle.std.proofs.Common.{sym, true, false, true≢false, rules}
use Rattle.ring_lines.proofs.Writing.{where_err, where_ok}
use Rattle.ring_campaign.proofs.Told.{tells_one}
use Rattle.ring_campaign.proofs.candidate.Candidate.tell.Goals as goal

pub returns-clause-ok : goal.returns-clause-ok
returns-clause-ok g c = where_ok c.put-put.result c.put-put.ensures.ok (λ wrote. tells_one _ _ _ _ _ true (λ same. true≢false (sym (c.if-is_same.ensures.1 same))) wrote)

pub returns-clause-err : goal.returns-clause-err
returns-clause-err g c = where_err c.put-put.result c.put-put.ensures.err (λ front. tells_one _ _ _ _ _ false (λ same. true≢false (sym (c.if-is_same.ensures.1 same))) front)

pub put-put-requires : goal.put-put-requires
put-put-requires g c = search rules
