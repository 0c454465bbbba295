-- What is noted of an answer beside the table.
use Rattle.std.specs.Prelude.{ℕ, Option, None, Some}
use Rattle.ring_any.specs.declared.any.Any.{Any}
use Rattle.ring_events.specs.declared.event.Command.{Command}
use Rattle.ring_events.specs.declared.event.Command.TheVariants.{Create}
use Rattle.ring_events.specs.declared.reply.Reply.{Reply}
use Rattle.ring_events.specs.declared.reply.Reply.TheVariants as reply
use Rattle.ring_table.specs.declared.access.Answer.{Answer}
use Rattle.ring_table.specs.declared.access.Answer.TheVariants.{Placed, Unplaced}
use Rattle.ring_server.specs.declared.noting.Note.{Note}
use Rattle.ring_server.specs.declared.noting.Note.TheVariants as note

-- a command that was done: a group was created, or nothing is noted
abbrev pub note_in_command : Command Any → Option Note
note_in_command (Create group algorithm) = Some (note.Created group algorithm)
note_in_command _ = None

-- the reply to a command: each refusal, and each group that was created
abbrev pub note_in_reply : Command Any → Reply → Option Note
note_in_reply command reply.Done = note_in_command command
note_in_reply command (reply.Refused refusal) = Some (note.Refused refusal)
note_in_reply command _ = None

-- the answer to a command: a refusal also if it has no place
abbrev pub note_in : Command Any → Answer → Option Note
note_in command (Placed answer place) = note_in_reply command answer
note_in command (Unplaced refusal) = Some (note.Refused refusal)
