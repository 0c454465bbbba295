-- Names are the same if they are the same with the zeros that follow them.
use Rattle.std.proofs.Common.{◌≡◌, ◌-◌, ℕ, zero, suc, true, List, [], ◌∷◌, ◌++◌, length, replicate, refl, sym, ap, ◌∙◌}
use Rattle.std.specs.List.{list_all}
use Rattle.std.specs.Str.{bytes_eq}
use Rattle.std.proofs.lemmas.Bool.{and_parts}
use Rattle.std.proofs.lemmas.Bool.Decides.{same_from_decides}
use Rattle.std.proofs.lemmas.Slice.Eq.{bytes_eq-Decides}
use Rattle.ring_id.specs.GroupName.{IsName, is_name_byte, padded}

-- no byte of a name is 0
no_zero : (b : ℕ) → is_name_byte b ≡ true → b ≡ 0 → ⊥
no_zero b legal none = let bad : is_name_byte 0 ≡ true = rw none at legal in cc

-- so a name ends at the first zero
front_same : (x y : List ℕ) (m n : ℕ) → list_all is_name_byte x ≡ true → list_all is_name_byte y ≡ true → x ++ replicate m 0 ≡ y ++ replicate n 0 → x ≡ y
front_same [] [] m n p q same = refl
front_same [] (b ∷ y) zero n p q same = cc
front_same [] (b ∷ y) (suc m) n p q same = absurd (no_zero b (and_parts (is_name_byte b) (list_all is_name_byte y) q).0 cc)
front_same (a ∷ x) [] m zero p q same = cc
front_same (a ∷ x) [] m (suc n) p q same = absurd (no_zero a (and_parts (is_name_byte a) (list_all is_name_byte x) p).0 cc)
front_same (a ∷ x) (b ∷ y) m n p q same =
    let first : a ≡ b = cc in
    let rest = front_same x y m n (and_parts (is_name_byte a) (list_all is_name_byte x) p).1 (and_parts (is_name_byte b) (list_all is_name_byte y) q).1 cc in
    cc

padded_same : (x y : List ℕ) → IsName x → IsName y → padded x ≡ padded y → x ≡ y
unfolding padded
padded_same x y p q same = front_same x y (16 - length x) (16 - length y) p.each q.each same

-- so comparing names with their zeros compares the names
pub padded_compared : (a b x y : List ℕ) → a ≡ padded x → b ≡ padded y → IsName x → IsName y → bytes_eq a b ≡ bytes_eq x y
padded_compared a b x y first second p q =
    let whole = bytes_eq-Decides a b in
    same_from_decides {P = x ≡ y} (bytes_eq a b) (bytes_eq x y)
    (λ e. padded_same x y p q (sym first ∙ whole.0 e ∙ second), λ same. whole.1 (first ∙ ap padded same ∙ sym second))
    (bytes_eq-Decides x y)
