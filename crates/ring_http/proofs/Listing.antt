-- Texts that are put one piece after another.
use Rattle.std.proofs.Common.{◌≡◌, ◌<◌, ◌+◌, ◌++◌, ◌∙◌, ℕ, List, ap, append_assoc, drop, get_or, length}
use Rattle.std.proofs.Math.Seq.{drop-cons}
use Rattle.std.proofs.Common.{arith}
use Rattle.std.proofs.lemmas.Grind.{common_steps}
use Rattle.std.specs.List.{flat_map}

-- one piece and then another
pub more : (a b c first second : List ℕ) → b ≡ a ++ first → c ≡ b ++ second → c ≡ a ++ (first ++ second)
more a b c first second one two = two ∙ ap (λ (l : List ℕ). l ++ second) one ∙ append_assoc a first second

-- one value more was put, with nothing between two
pub put_next : {X : Type 0} (text_of : X → List ℕ) (xs : List X) (i : ℕ) (x : X) (out now whole : List ℕ) → i < length xs
    → out ++ flat_map text_of (drop i xs) ≡ whole → now ≡ out ++ text_of (get_or xs i x) → now ++ flat_map text_of (drop (i + 1) xs) ≡ whole
put_next text_of xs i x out now whole below left value = grind (arith, common_steps, drop-cons xs i x below)
