-- What is so of an answer follows from what is so where it came and where it was refused.
use Rattle.std.proofs.Common.{◌≡◌, true≢false, sym}
use Rattle.std.specs.Prelude.{true, Result, Ok, Err, IfOk, OnErr, OnOk}
use Rattle.std.specs.Result.{is_ok}

-- what is so where an answer came, there being one
pub where_ok : {A B P : Type 0} (answer : Result A B) → is_ok answer ≡ true → OnOk answer P → P
where_ok (Ok a) some says = says
where_ok (Err b) some says = absurd (true≢false (sym some))

-- what follows in both cases
pub in_both : {A B P Q R S : Type 0} (answer : Result A B) → OnOk answer P → OnOk answer Q → OnErr answer R → (P → Q → S) → (R → S) → S
in_both (Ok a) p q r came refused = came p q
in_both (Err b) p q r came refused = refused r

-- what follows of the answer
pub of_answer : {A B P : Type 0} {Q R : A → Type 0} (answer : Result A B) → OnOk answer P → IfOk answer Q → (P → (a : A) → Q a → R a) → IfOk answer R
of_answer (Ok a) p q follows = follows p a q
of_answer (Err b) p q follows = tt
