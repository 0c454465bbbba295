-- The reply to each result of the book.
use Rattle.std.specs.Prelude.{Result, Ok, Err}
use Rattle.ring_id.specs.declared.refusal.Refusal.{Refusal}
use Rattle.ring_terms.specs.declared.standing.Standing.{Standing}
use Rattle.ring_events.specs.declared.reply.Reply.{Reply}
use Rattle.ring_events.specs.declared.reply.Reply.TheVariants as reply
use Rattle.ring_terms.specs.Steps.{standing_reply}

-- the reply to a command that returns no value
abbrev pub done_reply : Result (Unit {0}) Refusal → Reply
done_reply (Ok done) = reply.Done
done_reply (Err refusal) = reply.Refused refusal

-- the reply to `who`
abbrev pub told_reply : Result Standing Refusal → Reply
told_reply (Ok standing) = standing_reply standing
told_reply (Err refusal) = reply.Refused refusal
