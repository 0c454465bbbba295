-- Lists: the elements of one.
use Rattle.std.specs.Prelude.{◌≡◌, ℕ, List, Some, slice_get}

-- it is in the list, at this place
pub record IsOneOf {A : Type 0} (xs : List A) (x : A) : Type 0 where
  pub place : ℕ
  pub there : slice_get xs place ≡ Some x
