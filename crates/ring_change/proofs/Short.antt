-- How long the lines of changes are.
use Rattle.std.proofs.Common.{◌<◌, ◌≤◌, ◌^◌, ◌++◌, ℕ, zero, suc, ◌∷◌, length, length-append, arith, decimal}
use Rattle.std.proofs.Math.Dec.{eqb-suc-zero}
use Rattle.std.proofs.lemmas.Fmt.{length-decimal-le}
use Rattle.ring_any.specs.Any.{word_of}
use Rattle.ring_any.specs.declared.any.Any.{Any}
use Rattle.ring_any.specs.declared.any.Any.TheVariants.{LeLann, Chang, Hirschberg, Peterson}
use Rattle.ring_id.specs.Identity.{number_of, weight_of}
use Rattle.ring_grammar.specs.Identities.{IsNode, node_word, weight_text}
use Rattle.ring_change.specs.declared.change.Change.{Change}
use Rattle.ring_change.specs.declared.change.Change.TheVariants.{Create, Join, Leave, Start, Know}
use Rattle.ring_change.specs.Spelling.{IsChange, change_line}

-- the words of an algorithm, a term, a number, a weight and an identity are short
short-algorithm : (algorithm : Any) → length (word_of algorithm) ≤ 10
short-algorithm LeLann = omega arith
short-algorithm Chang = omega arith
short-algorithm Hirschberg = omega arith
short-algorithm Peterson = omega arith

short-term : (term : ℕ) → term ≤ 1000 → length (decimal term) ≤ 4
short-term term few = length-decimal-le 4 term (omega arith) (omega arith) (omega arith)

pub short-number : (number : ℕ) → number < 2 ^ 32 → length (decimal number) ≤ 10
short-number number short = length-decimal-le 10 number (omega arith) (omega arith) (omega arith)

short-weight : (weight : ℕ) → weight < 2 ^ 16 → length (weight_text weight) ≤ 6
short-weight zero light = omega arith
short-weight (suc weight) light =
    rw (eqb-suc-zero weight) (omega (arith, length-decimal-le 5 (suc weight) (omega arith) (omega arith) (omega arith)))

pub short-node : (node : ℕ) → IsNode node → length (node_word node) ≤ 16
short-node node legal =
    omega (arith, length-append (decimal (number_of node)) (weight_text (weight_of node)), short-number (number_of node) legal.0.1, short-weight (weight_of node) legal.1)

-- the line of a change is short
pub short-change : (change : Change Any) → IsChange change → length (change_line change) ≤ 60
short-change (Create g a) p = omega (arith, length-append g (32 ∷ word_of a), p.short, short-algorithm a)
short-change (Join g n) p = omega (arith, length-append g (32 ∷ node_word n), p.0.short, short-node n p.1)
short-change (Leave g n) p = omega (arith, length-append g (32 ∷ decimal n), p.0.short, short-number n p.1.1)
short-change (Start g) p = omega (arith, p.short)
short-change (Know g t m l) p =
    omega (
      arith,
      length-append g (32 ∷ (decimal t ++ 32 ∷ (node_word m ++ 32 ∷ node_word l))),
      length-append (decimal t) (32 ∷ (node_word m ++ 32 ∷ node_word l)),
      length-append (node_word m) (32 ∷ node_word l),
      p.0.short,
      short-term t p.1.1,
      short-node m p.2,
      short-node l p.3,
    )
