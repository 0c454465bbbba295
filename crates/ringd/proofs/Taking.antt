-- A property of a result, in other words.
use Rattle.std.proofs.Common.{Result, Ok, Err}
use Rattle.std.specs.Prelude.{IfErr, IfOk}

pub ok_map : {A E : Type 0} (P Q : A → Type 0) (result : Result A E) → ((value : A) → P value → Q value) → IfOk result P → IfOk result Q
ok_map P Q (Ok value) leads holds = leads value holds
ok_map P Q (Err fault) leads holds = holds

pub err_map : {A E : Type 0} (P Q : E → Type 0) (result : Result A E) → ((fault : E) → P fault → Q fault) → IfErr result P → IfErr result Q
err_map P Q (Ok value) leads holds = holds
err_map P Q (Err fault) leads holds = leads fault holds
