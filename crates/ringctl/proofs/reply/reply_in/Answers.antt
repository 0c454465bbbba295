-- The reply is read in the line without its place.
use Rattle.ringctl.proofs.Places.{refused, whole}
use Rattle.ringctl.proofs.reply.reply_in.Goals as goal

pub returns-clause-whole : goal.returns-clause-whole
returns-clause-whole c = whole _ _ c.without_place.ensures _ c.read_reply.ensures.whole

pub returns-clause-refused : goal.returns-clause-refused
returns-clause-refused c = refused _ _ c.without_place.ensures _ c.read_reply.ensures.refused
