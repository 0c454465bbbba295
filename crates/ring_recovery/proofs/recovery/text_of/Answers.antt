-- The text of the lines after the heading follows another heading.
use Rattle.std.proofs.Common.{◌≡◌, ◌∙◌, ◌++◌, ◌∷◌, ◌-◌, [], List, ℕ, drop, take, ap}
use Rattle.ring_journal.specs.Journals.{HasAll}
use Rattle.ring_journal.specs.Lines.{lines_in, whole_lines_of}
use Rattle.ring_recovery.specs.JournalLines.{heading}
use Rattle.ring_recovery.proofs.Headed.{headed_all, headed_lines, its_parts}
use Rattle.ring_recovery.proofs.recovery.text_of.Goals as goal

pub returns-clause-whole : goal.returns-clause-whole
returns-clause-whole c =
    let found = c.args.found.items in
    let whole = c.whole_len.result in
    let all : HasAll (take whole found) = rw c.deref-2.ensures.value at c.whole_len.ensures.all in
    let same : whole_lines_of (take whole found) ≡ lines_in found = rw c.deref-2.ensures.value at c.whole_len.ensures.lines in
    let put = c.in_ok-put_heading.ensures.text ∙ ap (λ (old : List ℕ). old ++ (heading c.args.life ++ 10 ∷ [])) c.new-text.ensures.items in
    let parts = its_parts found whole all same (heading c.args.life ++ 10 ∷ []) c.from.result.bytes c.put_heading.new.text.items _ c.args.start (rw c.deref-2.ensures.value at c.whole_len.ensures.within) c.requires put
    (ap (λ (text : List ℕ). take (whole - c.args.start) (drop c.args.start text)) c.deref.ensures.value) (c.from.ensures ∙ c.in_ok-extend_from_slice.ensures.items) in
    headed_all found whole all same c.args.life c.in_ok-put_heading.ensures.legal c.from.result.bytes parts

pub returns-clause-lines : goal.returns-clause-lines
returns-clause-lines c =
    let found = c.args.found.items in
    let whole = c.whole_len.result in
    let all : HasAll (take whole found) = rw c.deref-2.ensures.value at c.whole_len.ensures.all in
    let same : whole_lines_of (take whole found) ≡ lines_in found = rw c.deref-2.ensures.value at c.whole_len.ensures.lines in
    let put = c.in_ok-put_heading.ensures.text ∙ ap (λ (old : List ℕ). old ++ (heading c.args.life ++ 10 ∷ [])) c.new-text.ensures.items in
    let parts = its_parts found whole all same (heading c.args.life ++ 10 ∷ []) c.from.result.bytes c.put_heading.new.text.items _ c.args.start (rw c.deref-2.ensures.value at c.whole_len.ensures.within) c.requires put
    (ap (λ (text : List ℕ). take (whole - c.args.start) (drop c.args.start text)) c.deref.ensures.value) (c.from.ensures ∙ c.in_ok-extend_from_slice.ensures.items) in
    headed_lines found whole all same c.args.life c.in_ok-put_heading.ensures.legal c.from.result.bytes parts
