use Rattle.std.proofs.Common.{◌∙◌, ap, subst, sym}
use Rattle.ring_recovery.proofs.listing.Behind.{IsBehind, all_behind, none_behind, one_behind}
use Rattle.ring_recovery.specs.JournalLines.{marked_lines}
use Rattle.ring_recovery.proofs.listing.groups.put_lines.Goals as goal

pub loop-line-init : goal.loop-line-init
loop-line-init c = λ changes lines legal.
    let left = c.into_iter-line-iterator.ensures.into_iter_gives ∙ lines ∙ ap (λ check. marked_lines check changes) (sym c.new-check.ensures) in
    none_behind c.args.book.now c.args.text.now.items changes c.new-check.result c.into_iter-line-iterator.result left legal

pub loop-line-preserved : goal.loop-line-preserved
loop-line-preserved c = λ changes lines legal.
    let behind = subst (λ left. IsBehind c.args.book.now c.args.text.now.items changes c.loop-line.check left c.loop-line.text.items) c.in-Some.ensures.steps (c.loop-line.invariant changes lines legal) in
    one_behind c.args.book.now c.args.text.now.items changes c.loop-line.check c.put_line.new.check c.in-Some.line.now c.next.new.self c.loop-line.text.items c.put_line.new.text.items behind c.put_line.ensures.check c.in_ok-put_line.ensures.text

pub returns : goal.returns
returns c = λ changes lines legal.
    let behind = subst (λ left. IsBehind c.args.book.now c.args.text.now.items changes c.loop-line.check left c.loop-line.text.items) c.in-None.ensures.steps.0 (c.loop-line.invariant changes lines legal) in
    all_behind c.args.book.now c.args.text.now.items changes c.loop-line.check c.loop-line.text.items behind
