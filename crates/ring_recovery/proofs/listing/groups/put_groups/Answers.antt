-- The text of the changes has no zero, and its first line is the heading.
use Rattle.std.proofs.Common.{◌≡◌, ◌∙◌, ◌++◌, OnOk, ap, subst, sym}
use Rattle.ring_change.specs.Checks.{first_check}
use Rattle.ring_journal.specs.Lines.{lines_in}
use Rattle.ring_journal.specs.Whole.{IsWhole}
use Rattle.ring_recovery.specs.Listing.{groups_text}
use Rattle.ring_recovery.proofs.listing.Behind.{without_first}
use Rattle.ring_recovery.proofs.listing.Ending.{finds_lines, text_is_whole}
use Rattle.ring_lives.specs.Changes.{changes_of}
use Rattle.ring_recovery.specs.JournalLines.{heading, marked_lines}
use Rattle.ring_recovery.proofs.listing.groups.put_groups.Goals as goal

pub unreachable-requires : goal.unreachable-requires
unreachable-requires c =
    let bytes = sym (c.bytes.ensures ∙ c.text.ensures.value) in
    let bad = c.in_default.ensures.whole.1 (subst IsWhole bytes (text_is_whole c.args.recovered.now.text c.text.ensures.lines.whole)) in
    absurd (cc)

pub returns : goal.returns
returns c =
    let changes = changes_of c.args.recovered.now.history in
    let text = c.text.ensures.lines in
    let bytes = ap lines_in (c.bytes.ensures ∙ c.text.ensures.value) in
    let lines = c.in-Ok.ensures.lines ∙ bytes ∙ finds_lines c.args.recovered.now.text text.whole ∙ text.lines in
    let left = without_first (heading c.args.recovered.now.life) (marked_lines first_check changes) c.in-Ok.lines c.next-heading.new.self c.next-heading.result lines c.next-heading.ensures.steps in
    subst (λ book. OnOk c.put_lines.result (c.put_lines.new.text.items ≡ c.args.text.now.items ++ groups_text book changes)) c.book.ensures (c.put_lines.ensures changes left c.requires)
