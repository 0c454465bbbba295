use Rattle.std.proofs.Common.{◌∙◌, ◌+◌, ap, sym, length, min, take, refl, arith}
use Rattle.ring_journal.proofs.Far.{bad_whole, none_far, some_far, starts_far}
use Rattle.ring_journal.proofs.Fronts.{take_front}
use Rattle.ring_journal.specs.Lines.{whole_lines_of}
use Rattle.ring_journal.proofs.reading.read_lines.Goals as goal

pub returns-in-Some-clause-bad : goal.returns-in-Some-clause-bad
returns-in-Some-clause-bad c =
    let found = c.args.found.now in
    let far = ap (λ reach. c.front_len-end.result + reach) c.min.ensures ∙ starts_far _ (length found) c.front_len-end.ensures.within ∙ ap (λ end. min (end + 65536) (length found)) c.front_len-end.ensures.len in
    some_far found _ c.in-Some.more far (sym c.in-Some.is ∙ c.byte_at.ensures)

pub returns-in-Some-clause-whole : goal.returns-in-Some-clause-whole
returns-in-Some-clause-whole c =
    (λ is. absurd (grind (arith, is)), λ whole. absurd (bad_whole _ _ (returns-in-Some-clause-bad c) whole))

pub returns-in-None-clause-lines : goal.returns-in-None-clause-lines
returns-in-None-clause-lines c =
    ap (λ end. whole_lines_of (take end c.args.found.now)) c.front_len-end.ensures.len ∙ ap whole_lines_of (take_front c.args.found.now)

pub returns-in-None-clause-whole : goal.returns-in-None-clause-whole
returns-in-None-clause-whole c =
    let found = c.args.found.now in
    let far = ap (λ reach. c.front_len-end.result + reach) c.min.ensures ∙ starts_far _ (length found) c.front_len-end.ensures.within ∙ ap (λ end. min (end + 65536) (length found)) c.front_len-end.ensures.len in
    (λ _. none_far found _ far (sym c.in-None.is ∙ c.byte_at.ensures), λ _. refl)
