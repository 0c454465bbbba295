-- The change that was read is the one that the line is of.
use Rattle.std.proofs.Common.{◌≡◌, ◌∙◌, ◌++◌, OnOk, ap, subst, sym}
use Rattle.ring_change.specs.Lines.{check_behind}
use Rattle.ring_recovery.specs.Listing.{change_text}
use Rattle.ring_recovery.proofs.Spelling.{one_marked}
use Rattle.ring_recovery.proofs.listing.groups.put_line.Goals as goal

pub returns-in-Some-clause-check : goal.returns-in-Some-clause-check
returns-in-Some-clause-check c = λ change legal is.
    let marked = c.in-Some.ensures.some in
    let same = one_marked c.one_change.ensures.changes c.args.check.now c.in-Some.change change marked.legal legal (sym marked.same ∙ is) in
    marked.checked ∙ ap (λ read. check_behind c.args.check.now read) same

pub returns-in-Some-clause-text : goal.returns-in-Some-clause-text
returns-in-Some-clause-text c = λ change legal is.
    let marked = c.in-Some.ensures.some in
    let same = one_marked c.one_change.ensures.changes c.args.check.now c.in-Some.change change marked.legal legal (sym marked.same ∙ is) in
    subst (λ read. OnOk c.put_change.result (c.put_change.new.text.items ≡ c.args.text.now.items ++ change_text c.args.book.now read)) same c.put_change.ensures
