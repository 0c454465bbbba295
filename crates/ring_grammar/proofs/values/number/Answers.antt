-- A number is printed as digits, and these digits give the number.
use Rattle.std.proofs.Common.{◌≡◌, ◌<◌, length, get_or, arith}
use Rattle.std.proofs.lemmas.Bool.Decides.{nat_tests}
use Rattle.ring_grammar.proofs.Digits.{printed_digits, printed_first, printed_length, printed_value, reading_more, reading_printed, reading_small}
use Rattle.ring_grammar.proofs.values.number.Goals as goal
use Rattle.ring_grammar.proofs.values.number.Goals.{then-is_empty-via-then-is_empty, then-is_empty-via-else-is_empty+then-text-gt-MOST_DIGITS, then-byte-lt48-via-then-byte-lt48, then-byte-lt48-via-else-byte-lt48+then-byte-gt57, else-text-gt1-via-then-text-gt1+else-text-eq48, else-text-gt1-via-else-text-gt1}

pub returns-then-is_empty : goal.returns-then-is_empty
returns-then-is_empty c = λ n short printed.
    let size = printed_length c.args.text.now n short printed in
    elim c.then-is_empty.branch [
      | then-is_empty-via-then-is_empty w ↦ grind (arith, nat_tests)
      | then-is_empty-via-else-is_empty+then-text-gt-MOST_DIGITS w ↦ absurd (omega arith)
    ]

pub returns-then-text-eq48 : goal.returns-then-text-eq48
returns-then-text-eq48 c = λ n short printed. absurd (omega (arith, printed_first c.args.text.now n short printed c.if-text-eq48.true))

pub returns-then-byte-lt48 : goal.returns-then-byte-lt48
returns-then-byte-lt48 c = λ n short printed.
    let digit = printed_digits c.args.text.now n short printed c.loop-byte.byte-index c.loop-byte-test.true in
    elim c.then-byte-lt48.branch [
      | then-byte-lt48-via-then-byte-lt48 w ↦ absurd (omega arith)
      | then-byte-lt48-via-else-byte-lt48+then-byte-gt57 w ↦ absurd (omega arith)
    ]

pub overflow_mul-value : goal.overflow_mul-value
overflow_mul-value c =
    let small = reading_small c.args.text.now c.loop-byte.byte-index c.loop-byte.value (omega arith) (omega arith) c.loop-byte.invariant in
    omega arith

pub overflow_add-value : goal.overflow_add-value
overflow_add-value c =
    let small = reading_small c.args.text.now c.loop-byte.byte-index c.loop-byte.value (omega arith) (omega arith) c.loop-byte.invariant in
    omega arith

pub loop-byte-preserved : goal.loop-byte-preserved
loop-byte-preserved c = reading_more c.args.text.now c.loop-byte.byte-index c.loop-byte.value c.loop-byte-test.true c.if-byte-lt48.false c.if-byte-gt57.false c.loop-byte.invariant

pub returns-then-value : goal.returns-then-value
returns-then-value c = λ n short printed.
    let whole : c.loop-byte.byte-index ≡ length c.args.text.now = omega arith in
    let same = printed_value c.args.text.now n c.loop-byte.value short printed (rw whole at c.loop-byte.invariant) in
    absurd (omega arith)

pub returns : goal.returns
returns c =
    let whole : c.loop-byte.byte-index ≡ length c.args.text.now = omega arith in
    let some : 0 < length c.args.text.now = grind (arith, nat_tests) in
    let lead : get_or c.args.text.now 0 0 ≡ 48 → length c.args.text.now ≡ 1 = elim c.else-text-gt1.branch [
      | else-text-gt1-via-then-text-gt1+else-text-eq48 w ↦ λ first. absurd (w.if-text-eq48.false first)
      | else-text-gt1-via-else-text-gt1 w ↦ λ first. omega arith
    ] in
    (omega arith, reading_printed c.args.text.now c.loop-byte.value some lead (omega arith) (rw whole at c.loop-byte.invariant))
