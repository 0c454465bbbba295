-- Bytes that are too far after the first zero.
use Rattle.std.proofs.Common.{◌≡◌, ◌≢◌, ◌+◌, ◌-◌, ◌<◌, ◌≤◌, ◌==◌, ℕ, zero, suc, Bool, true, false, not, cond, nat_lt, min, List, All, length, take, drop, get_or, Option, Some, None, refl, ap, sym, ◌∙◌, subst, arith, length-drop}
use Rattle.std.specs.List.{position, position_or_len}
use Rattle.std.proofs.Math.Nat.{min-eq_left}
use Rattle.std.proofs.lemmas.Bool.{ltb-true, ltb-false}
use Rattle.std.proofs.lemmas.List.{take_all, get_or-drop, drop_min}
use Rattle.std.proofs.lemmas.List.Sums.{fails_before_first, passes_at_first}
use Rattle.ring_journal.specs.Lines.{front}
use Rattle.ring_journal.specs.Whole.{IsBadAt, IsWhole}

abbrev is_byte : ℕ → Bool
is_byte byte = not (byte == 0)

no_byte : (byte : ℕ) → is_byte byte ≡ false → byte ≡ 0
no_byte zero fails = refl
no_byte (suc byte) fails = absurd (grind (arith, fails))

a_byte : (byte : ℕ) → is_byte byte ≡ true → byte ≢ 0
a_byte zero passes = absurd (grind (arith, passes))
a_byte (suc byte) passes = λ is. absurd (omega (arith, is))

-- the place of the first byte that is not a zero; `None` if all are zeros
abbrev FoundByte : List ℕ → Option ℕ → Type 0
FoundByte bytes None = All (λ byte. byte ≡ 0) bytes
FoundByte bytes (Some at) = (at < length bytes) × (get_or bytes at 0 ≢ 0) × ((k : ℕ) → k < at → get_or bytes k 0 ≡ 0)

found_byte : (bytes : List ℕ) → FoundByte bytes (position is_byte bytes)
found_byte bytes = elim (nat_lt (position_or_len is_byte bytes) (length bytes)) as
    (λ b. nat_lt (position_or_len is_byte bytes) (length bytes) ≡ b → FoundByte bytes (cond b (Some (position_or_len is_byte bytes)) None)) [
      | true ↦ λ below. (
        ltb-true _ _ below,
        a_byte _ (passes_at_first is_byte bytes 0 (ltb-true _ _ below)),
        λ k before. no_byte _ (fails_before_first is_byte bytes k 0 before),
      )
      | false ↦ λ past k d below. no_byte _ (fails_before_first is_byte bytes k d (omega (arith, ltb-false _ _ past, below)))
    ] refl

-- the bytes that are searched are all that are far enough
abbrev pub far_bytes : List ℕ → ℕ → List ℕ
far_bytes found far = take (length found - far) (drop far found)

far_are : (found : List ℕ) (n : ℕ) → far_bytes found (min n (length found)) ≡ drop n found
far_are found n = take_all _ _ (omega (arith, length-drop (min n (length found)) found)) ∙ drop_min n found

pub none_far : (found : List ℕ) (far : ℕ) → far ≡ min (length (front found) + 65536) (length found) → None ≡ position is_byte (far_bytes found far) → IsWhole found
none_far found far is none =
    let all : drop (length (front found) + 65536) found ≡ far_bytes found far = sym (ap (far_bytes found) is ∙ far_are found _) in
    subst (λ bytes. All (λ byte. byte ≡ 0) bytes) (sym all) (subst (FoundByte (far_bytes found far)) (sym none) (found_byte (far_bytes found far)))

pub some_far : (found : List ℕ) (far more : ℕ) → far ≡ min (length (front found) + 65536) (length found) → Some more ≡ position is_byte (far_bytes found far) → IsBadAt found (far + more)
some_far found far more is some =
    let n = length (front found) + 65536 in
    let all : far_bytes found far ≡ drop n found = ap (far_bytes found) is ∙ far_are found n in
    let at : FoundByte (drop n found) (Some more) = subst (λ bytes. FoundByte bytes (Some more)) all (subst (FoundByte (far_bytes found far)) (sym some) (found_byte (far_bytes found far))) in
    let inside : n + more < length found = omega (arith, at.0, length-drop n found) in
    let starts : far ≡ n = is ∙ min-eq_left (omega (arith, inside)) in
    let place : far + more ≡ n + more = ap (λ (f : ℕ). f + more) starts in
    record {
      inside = omega (arith, inside, starts);
      far = omega (arith, starts);
      byte = λ zero. at.1 (get_or-drop n found more 0 ∙ ap (λ (k : ℕ). get_or found k 0) (sym place) ∙ zero);
      first = λ k from before. before_zero found n more at.2 k from (omega (arith, before, starts));
    }
  where
    before_zero : (found : List ℕ) (n more : ℕ) → ((k : ℕ) → k < more → get_or (drop n found) k 0 ≡ 0) → (k : ℕ) → n ≤ k → k < n + more → get_or found k 0 ≡ 0
    before_zero found n more zeros k from before =
        ap (λ (i : ℕ). get_or found i 0) (omega (arith, from)) ∙ sym (get_or-drop n found (k - n) 0) ∙ zeros (k - n) (omega (arith, from, before))

-- a file with a bad byte is not whole
pub bad_whole : (found : List ℕ) (at : ℕ) → IsBadAt found at → ¬ (IsWhole found)
bad_whole found at bad whole =
    let n = length (front found) + 65536 in
    bad.byte (ap (λ (k : ℕ). get_or found k 0) (omega (arith, bad.far)) ∙ sym (get_or-drop n found (at - n) 0) ∙ whole (at - n) 0 (omega (arith, bad.far, bad.inside, length-drop n found)))

-- the place where the search starts, without a sum that could wrap
pub starts_far : (end len : ℕ) → end ≤ len → end + min 65536 (len - end) ≡ min (end + 65536) len
starts_far end len within = grind (arith, within)
