-- Entries without bytes.
use Rattle.ring_events.specs.declared.reply.Reply.{Reply}
use Rattle.ring_table.specs.declared.entry.Entry.{Entry}
use Rattle.ring_table.specs.declared.entry.Entry.TheVariants as entry
use Rattle.ring_table.specs.declared.happening.Happening.{Happening}
use Rattle.ring_table.specs.declared.happening.Happening.TheVariants.{Call, Filing}

-- the entry of what happened, with its reply if it was a call
abbrev pub entry_of : {E : Type 0} → Happening E → Reply → Entry E
entry_of (Call session command) reply = entry.Call session command reply
entry_of (Filing group term member leader noting) reply = entry.Filing group term member leader noting
