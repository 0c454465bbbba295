-- Facts at an error.
use Rattle.std.proofs.Common.{Result, Ok, Err, OnErr}

-- a fact that holds anyway holds at an error
pub on_err_anyway : {T E P : Type 0} (result : Result T E) → P → OnErr result P
on_err_anyway (Ok value) p = tt
on_err_anyway (Err fault) p = p
