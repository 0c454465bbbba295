-- No two changes have one line after the same check.
use Rattle.std.proofs.Common.{◌≡◌, ℕ, List, ◌++◌, length, take, refl, ap, sym, ◌∙◌, arith, length-append}
use Rattle.std.proofs.Math.Seq.{take-append_seam}
use Rattle.ring_any.specs.declared.any.Any.{Any}
use Rattle.ring_grammar.specs.OneSpelling.{HaveOneSpelling}
use Rattle.ring_change.specs.declared.change.Change.{Change}
use Rattle.ring_change.specs.Checks.{check_mark}
use Rattle.ring_change.specs.Lines.{check_behind, marked_line}
use Rattle.ring_change.specs.Spelling.{IsChange, SpellsChange, change_line}

pub mark_long : (check : ℕ) → length (check_mark check) ≡ 10
mark_long check = refl

-- two texts are equal if they are so with two other texts of one length after them
pub same_front : (a b m n : List ℕ) → a ++ m ≡ b ++ n → length m ≡ length n → a ≡ b
same_front a b m n same long =
    let size : length a ≡ length b = omega (arith, long, ap length same, length-append a m, length-append b n) in
    sym (take-append_seam a m) ∙ ap (take (length a)) same ∙ ap (λ (k : ℕ). take k (b ++ n)) size ∙ take-append_seam b n

pub one_marked : (law : HaveOneSpelling IsChange SpellsChange) (check : ℕ) (a b : Change Any) → IsChange a → IsChange b → marked_line check a ≡ marked_line check b → a ≡ b
one_marked law check a b legal_a legal_b same =
    let x = check_mark (check_behind check a) in
    let y = check_mark (check_behind check b) in
    let line = same_front (change_line a) (change_line b) x y same (mark_long (check_behind check a) ∙ sym (mark_long (check_behind check b))) in
    law.one_value (change_line a) a b (record { legal = legal_a; same = refl }) (record { legal = legal_b; same = line })
