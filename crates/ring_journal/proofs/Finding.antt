-- A restart finds the first bytes of a text with no zero in it, and no fewer than were kept.
use Rattle.std.proofs.Common.{◌≡◌, ◌≢◌, ◌≤◌, ◌==◌, inl, inr, ℕ, zero, suc, List, [], ◌∷◌, ◌++◌, length, take, refl, ap, sym, ◌∙◌, arith}
use Rattle.std.proofs.lemmas.Bool.{cond-true, cond-false, eq-eqb, ne_eqb}
use Rattle.ring_journal.specs.Moments.{MayFind}
use Rattle.ring_journal.specs.Lines.{AreLines, IsLine, front, text_of}

-- no byte is a zero
abbrev pub HasNoZero : List ℕ → Type 0
HasNoZero [] = Unit {0}
HasNoZero (byte ∷ text) = (byte ≢ 0) × HasNoZero text

pub no_zero-append : (a b : List ℕ) → HasNoZero a → HasNoZero b → HasNoZero (a ++ b)
no_zero-append [] b h k = k
no_zero-append (byte ∷ a) b h k = (h.0, no_zero-append a b h.1 k)

pub no_zero_front : (a b : List ℕ) → HasNoZero (a ++ b) → HasNoZero a
no_zero_front [] b h = tt
no_zero_front (byte ∷ a) b h = (h.0, no_zero_front a b h.1)

pub no_zero_line : (line : List ℕ) → IsLine line → HasNoZero line
no_zero_line [] is = tt
no_zero_line (byte ∷ line) is = (is.1, no_zero_line line is.2)

pub no_zero_text : (lines : List (List ℕ)) → AreLines lines → HasNoZero (text_of lines)
no_zero_text [] are = tt
no_zero_text (line ∷ lines) are = no_zero-append line (10 ∷ text_of lines) (no_zero_line line are.0) (omega arith, no_zero_text lines are.1)

-- the bytes before the first zero are the first of the text
pub record FrontOf (text : List ℕ) (kept : ℕ) (found : List ℕ) : Type 0 where
  pub many : ℕ
  pub are : front found ≡ take many text
  pub least : kept ≤ many
  pub most : many ≤ length text

zero_front : (byte : ℕ) (rest : List ℕ) → byte ≡ 0 → front (byte ∷ rest) ≡ []
zero_front byte rest is = cond-true (byte == 0) [] (byte ∷ front rest) (eq-eqb byte 0 is)

byte_front : (found byte : ℕ) (rest : List ℕ) → found ≡ byte → byte ≢ 0 → front (found ∷ rest) ≡ byte ∷ front rest
byte_front found byte rest same some =
    cond-false (found == 0) [] (found ∷ front rest) (ne_eqb found 0 (λ is. some (sym same ∙ is))) ∙ ap (λ (b : ℕ). b ∷ front rest) same

one_more : (found byte : ℕ) (rest text : List ℕ) (kept : ℕ) → found ≡ byte → byte ≢ 0 → FrontOf text kept rest → FrontOf (byte ∷ text) (suc kept) (found ∷ rest)
one_more found byte rest text kept same some more = record {
  many = suc more.many;
  are = byte_front found byte rest same some ∙ ap (λ (l : List ℕ). byte ∷ l) more.are;
  least = omega (arith, more.least);
  most = omega (arith, more.most);
}

pub front_of : (found text : List ℕ) (kept : ℕ) → HasNoZero text → MayFind found text kept → FrontOf text kept found
front_of [] text kept some find = record { many = 0; are = refl; least = omega (arith, find); most = omega arith }
front_of (found ∷ rest) [] kept some find = record { many = 0; are = zero_front found rest find.1; least = omega (arith, find.0); most = omega arith }
front_of (found ∷ rest) (byte ∷ text) zero some find = elim find.0 [
  | inl is ↦ record { many = 0; are = zero_front found rest is; least = omega arith; most = omega arith }
  | inr same ↦ let more = one_more found byte rest text 0 same some.0 (front_of rest text 0 some.1 find.1) in
      record { many = more.many; are = more.are; least = omega arith; most = more.most }
]
front_of (found ∷ rest) (byte ∷ text) (suc kept) some find = one_more found byte rest text kept find.0 some.0 (front_of rest text kept some.1 find.1)
