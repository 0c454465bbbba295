-- A line is read as a command, or else as a change by a report.
use Rattle.std.proofs.Common.{◌≤◌, ℕ, List, length, Option, None, Some, IfSome, sym, ◌∙◌, ap, arith}
use Rattle.std.specs.Prelude.{IfNone}
use Rattle.std.proofs.lemmas.List.Splits.{join_with_byte-slice_split}
use Rattle.ring_any.specs.declared.any.Any.{Any}
use Rattle.ring_events.specs.declared.event.Command.{Command}
use Rattle.ring_events.specs.declared.event.Command.TheVariants as command
use Rattle.ring_events.specs.declared.event.Event.TheVariants.{Client}
use Rattle.ring_grammar.specs.Spelling.{Spells, line_of}
use Rattle.ring_change.specs.declared.change.Change.{Change}
use Rattle.ring_change.specs.declared.change.Change.TheVariants.{Create, Join, Leave, Start, Know}
use Rattle.ring_change.specs.Spelling.{SpellsChange, change_words}
use Rattle.ring_change.specs.private.Reading.{IsKnow, Reads, words_in}
use Rattle.ring_change.proofs.Plain.{words_in-change}
use Rattle.ring_change.proofs.Short.{short-change}

-- the line of a change is short enough for a command
short-line : (line : List ℕ) (change : Change Any) → SpellsChange line change → length line ≤ 128
short-line line change spells = omega (arith, ap length spells.same, short-change change spells.legal)

-- a change that is read from the words of a line is spelled by the line
pub knows_some : (line : List ℕ) (read : Option (Change Any)) → Reads change_words IsKnow (words_in line) read → IfSome read (SpellsChange line)
knows_some line None reads = tt
knows_some line (Some (Know group term member leader)) reads = record { legal = reads.0; same = sym (join_with_byte-slice_split 32 line) ∙ ap line_of reads.1 }
knows_some line (Some (Create group algorithm)) reads = absurd reads.0
knows_some line (Some (Join group node)) reads = absurd reads.0
knows_some line (Some (Leave group number)) reads = absurd reads.0
knows_some line (Some (Start group)) reads = absurd reads.0

-- a line spells no change if it spells no command and no change is read from its words
unknown : (line : List ℕ) (change : Change Any) → ((asks : Command Any) → ¬ (Spells line (Client asks))) → Reads change_words IsKnow (words_in line) None → ¬ (SpellsChange line change)
unknown line (Create group algorithm) unasked reads spells = unasked (command.Create group algorithm) (record { short = short-line line (Create group algorithm) spells; legal = spells.legal; same = spells.same })
unknown line (Join group node) unasked reads spells = unasked (command.Join group node) (record { short = short-line line (Join group node) spells; legal = spells.legal; same = spells.same })
unknown line (Leave group number) unasked reads spells = unasked (command.Leave group number) (record { short = short-line line (Leave group number) spells; legal = spells.legal; same = spells.same })
unknown line (Start group) unasked reads spells = unasked (command.Start group) (record { short = short-line line (Start group) spells; legal = spells.legal; same = spells.same })
unknown line (Know group term member leader) unasked reads spells =
    reads (Know group term member leader) spells.legal (ap words_in spells.same ∙ words_in-change (Know group term member leader) spells.legal)

pub knows_none : (line : List ℕ) (read : Option (Change Any)) → ((asks : Command Any) → ¬ (Spells line (Client asks))) → Reads change_words IsKnow (words_in line) read → IfNone read ((change : Change Any) → ¬ (SpellsChange line change))
knows_none line None unasked reads = λ change spells. unknown line change unasked reads spells
knows_none line (Some change) unasked reads = tt
