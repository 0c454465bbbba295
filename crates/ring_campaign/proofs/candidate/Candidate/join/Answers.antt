-- A join that was not done, one that was, and one whose client did not get the reply.
use Rattle.std.proofs.Common.{◌∙◌, inl, inr, refl, sym, true≢false}
use Rattle.ring_campaign.proofs.Told.{campaigned, campaigned_unheard, given_either, joined}
use Rattle.ring_campaign.proofs.candidate.Candidate.join.Goals as goal

pub returns-then-not-is_done-clause-joins : goal.returns-then-not-is_done-clause-joins
returns-then-not-is_done-clause-joins g c =
    inl
    (record {
      answer = c.call.result;
      answered = rw c.settle.ensures.entries c.call.ensures.entry;
      refused = λ done. true≢false (sym (c.if-not-is_done.ensures.1 (c.into_reply-reply.ensures ∙ done)));
      unread = refl;
      told = rw (← c.into_reply-reply.ensures) (given_either _ _ _ _ c.put-put.result c.put-put.ensures.ok c.put-put.ensures.err);
    })

pub returns-in-Ok-clause-joins : goal.returns-in-Ok-clause-joins
returns-in-Ok-clause-joins g c =
    let done = c.if-not-is_done.ensures.0 refl in
    let join = joined _ _ _ _ _ _ c.call.ensures.entry (sym c.into_reply-reply.ensures ∙ done) in
    inr
    (campaigned _ _ _ _ _ _ _ _ _ _ _ _ _ _ (c.settle.ensures.entries ∙ join) (rw done at c.in-Ok.ensures.ok) (rw c.requires.number at c.attend.ensures.attends) (rw c.requires.number at c.part.ensures.leaves))

pub returns-in-Err-clause-joins : goal.returns-in-Err-clause-joins
returns-in-Err-clause-joins g c =
    let done = c.if-not-is_done.ensures.0 refl in
    let join = joined _ _ _ _ _ _ c.call.ensures.entry (sym c.into_reply-reply.ensures ∙ done) in
    inr (campaigned_unheard _ _ _ _ _ _ _ _ _ _ _ (c.settle.ensures.entries ∙ join) (rw done at c.in-Err.ensures.err) (rw c.requires.number at c.part-in-Err.ensures.leaves))
