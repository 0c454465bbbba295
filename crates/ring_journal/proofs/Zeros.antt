-- A file that a crash leaves has only zeros after the text.
use Rattle.std.proofs.Common.{◌≡◌, ◌+◌, ◌≤◌, ℕ, zero, suc, List, [], ◌∷◌, All, length, drop, ap, ◌∙◌, arith}
use Rattle.std.proofs.lemmas.List.{length-take-le}
use Rattle.ring_journal.specs.Moments.{MayFind}
use Rattle.ring_journal.specs.Lines.{front}
use Rattle.ring_journal.specs.Whole.{IsWhole}
use Rattle.ring_journal.proofs.Finding.{HasNoZero, front_of}

zero_then : (byte : ℕ) (rest : List ℕ) → byte ≡ 0 → All (λ byte. byte ≡ 0) rest → All (λ byte. byte ≡ 0) (byte ∷ rest)
zero_then byte rest is more zero d below = is
zero_then byte rest is more (suc k) d below = more k d (omega (arith, below))

-- after the text are zeros
zeros_from : (found : List ℕ) (kept : ℕ) → MayFind found [] kept → All (λ byte. byte ≡ 0) found
zeros_from [] kept find = λ k d below. absurd (omega (arith, below))
zeros_from (byte ∷ rest) kept find = zero_then byte rest find.1 (zeros_from rest 0 find.2)

zeros_after : (n : ℕ) (found text : List ℕ) (kept : ℕ) → MayFind found text kept → length text ≤ n → All (λ byte. byte ≡ 0) (drop n found)
zeros_after zero found [] kept find within = zeros_from found kept find
zeros_after zero found (byte ∷ text) kept find within = absurd (omega (arith, within))
zeros_after (suc n) [] text kept find within = λ k d below. absurd (omega (arith, below))
zeros_after (suc n) (byte ∷ found) [] kept find within = zeros_after n found [] 0 find.2 (omega arith)
zeros_after (suc n) (byte ∷ found) (wrote ∷ text) zero find within = zeros_after n found text 0 find.1 (omega (arith, within))
zeros_after (suc n) (byte ∷ found) (wrote ∷ text) (suc kept) find within = zeros_after n found text kept find.1 (omega (arith, within))

-- a file is whole if no more than a batch was written and not kept
pub whole_find : (found text : List ℕ) (kept : ℕ) → HasNoZero text → MayFind found text kept → length text ≤ kept + 65536 → IsWhole found
whole_find found text kept some find near =
    let at = front_of found text kept some find in
    let long : length (front found) ≡ at.many = ap length at.are ∙ length-take-le at.many text at.most in
    zeros_after (length (front found) + 65536) found text kept find (omega (arith, near, long, at.least))
