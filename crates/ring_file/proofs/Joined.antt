-- Batches with one more.
use Rattle.std.proofs.Common.{◌≡◌, ℕ, List, [], ◌∷◌, ◌++◌, map, ap, sym, ◌∙◌, append_assoc, append-nil}
use Rattle.ring_file.specs.Files.{joined}

joined_push : {A : Type 0} (f : A → List ℕ) (old : List A) (x : A) → joined (map f (old ++ x ∷ [])) ≡ joined (map f old) ++ f x
joined_push f [] x = append-nil (f x)
joined_push f (first ∷ old) x = ap (λ (l : List ℕ). f first ++ l) (joined_push f old x) ∙ sym (append_assoc (f first) (joined (map f old)) (f x))

pub joined_more : {A : Type 0} (f : A → List ℕ) (old mid new : List A) (x : A) (text bytes : List ℕ) → mid ≡ old → new ≡ mid ++ x ∷ [] → f x ≡ bytes → joined (map f old) ≡ text → joined (map f new) ≡ text ++ bytes
joined_more f old mid new x text bytes same pushed is whole =
    ap (λ l. joined (map f l)) (pushed ∙ ap (λ l. l ++ x ∷ []) same) ∙ joined_push f old x ∙ (λ i. whole i ++ is i)
