-- The reply of the access's answer is a reply to the line.
use Rattle.ring_service.proofs.Replying.{answers_line, unread_line}
use Rattle.ring_service.proofs.format.ReplyAloneFormat.write.Goals as goal

pub returns-clause-command : goal.returns-clause-command
returns-clause-command c = λ most session line command mine now below spelled seated. rw c.into_reply.ensures (answers_line session line command mine c.args.answer now spelled seated)

pub returns-clause-unread : goal.returns-clause-unread
returns-clause-unread c = λ is most session line mine unread. rw (c.into_reply.ensures, is) (unread_line session line mine unread)
