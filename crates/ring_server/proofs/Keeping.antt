-- A value that is made of a part and a fact about it is as before if the part is.
use Rattle.std.proofs.Common.{◌≡◌, ap}
use Rattle.std.proofs.Math.Path.{path_j}

pub same_with : {A C : Type 0} {x y : A} → x ≡ y → (B : A → Type 0) → ((a : A) → IsProp (B a)) → (make : (a : A) → B a → C)
    → (old : B x) (new : B y) → make x old ≡ make y new
same_with {A} {C} {x} {y} same B prop make =
    path_j {A = A} {x = x} (λ y same. (old : B x) (new : B y) → make x old ≡ make y new) (λ old new. ap (make x) (prop x old new)) same
