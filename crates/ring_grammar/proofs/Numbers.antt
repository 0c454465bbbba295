-- Numbers and the texts that are printed of them.
use Rattle.std.proofs.Common.{◌≡◌, ◌<◌, ◌↔◌, ℕ, List, Option, None, Some, IsSome, IfSome, sym, ◌∙◌, arith, refl, decimal}
use Rattle.std.proofs.lemmas.Fmt.{decimal_injective}
use Rattle.ring_grammar.specs.Identities.{IsNumber}
use Rattle.ring_grammar.specs.private.Reading.{IsShortNumber, Reads}

-- a text is printed of one number
pub printed_of_one : (text : List ℕ) (m n : ℕ) → IsShortNumber m → IsShortNumber n → text ≡ decimal m → text ≡ decimal n → m ≡ n
printed_of_one text m n a b p q = decimal_injective m n (omega arith) (omega arith) (sym p ∙ q)

-- the number of a node is a number that was read and isn't 0
pub reads_number : (word : List ℕ) (n : ℕ) (node : Option ℕ) → Reads decimal IsShortNumber word (Some n) → IsSome node ↔ (0 < n) → IfSome node (λ id. id ≡ n) → Reads decimal IsNumber word node
reads_number word n None read there value = λ a legal printed.
    let same : n ≡ a = printed_of_one word n a read.0 legal.1 read.1 printed in
    let some = there.1 (omega arith) in
    cc
reads_number word n (Some id) read there value = let positive = there.0 refl in rw value ((positive, read.0), read.1)
