use Rattle.std.proofs.Common.{◌≡◌, List, ℕ, ◌∙◌, sym, subst, ap, refl}
use Rattle.ring_change.specs.Checks.{check_after}
use Rattle.ring_change.specs.Lines.{IsOneLine, marked_line}
use Rattle.ring_change.specs.Spelling.{change_line}
use Rattle.ring_change.proofs.OneChange.{changes_are_lines}
use Rattle.ring_change.proofs.journal_line.spell_line.Goals as goal

pub returns-clause-whole : goal.returns-clause-whole
returns-clause-whole c =
    let change = c.args.change.now in
    let check = c.args.check.now in
    let text : c.as_slice.result.now ≡ change_line change = c.as_slice.ensures.value ∙ c.spelled-line.ensures.line in
    let after : c.after.result ≡ check_after check (change_line change) = c.after.ensures ∙ ap (check_after check) text in
    let line : c.marked.result ≡ marked_line check change = c.marked.ensures ∙ rw (c.spelled-line.ensures.line, after) refl in
    subst (λ (l : List ℕ). IsOneLine l) (sym line) (changes_are_lines check change c.spelled-line.ensures.legal)
