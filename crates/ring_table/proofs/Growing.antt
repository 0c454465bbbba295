-- A call or a report adds an entry or none.
use Rattle.std.proofs.Common.{◌≡◌, ◌≤◌, ℕ, Bool, List, [], ◌∷◌, ◌++◌, length, length-append, ap, inl, inr, arith}
use Rattle.ring_events.specs.declared.event.Command.{Command}
use Rattle.ring_events.specs.declared.reply.Reply.{Reply}
use Rattle.ring_node.specs.Reports.{Told}
use Rattle.ring_node.specs.declared.filed.Filed.{Filed}
use Rattle.ring_table.specs.Tables.{Calls, Files, TableView}

longer : {A : Type 0} (old new : List A) (x : A) → new ≡ old ++ x ∷ [] → length old ≤ length new
longer old new x is = omega (arith, ap length is, length-append old (x ∷ []))

pub calls_grow : {E : Type 0} (two_way greatest : E → Bool) (session : ℕ) (command : Command E) (old : TableView E) (answer : Reply) (new : TableView E) → Calls two_way greatest session command old answer new → length old.history ≤ length new.history
calls_grow two_way greatest session command old answer new (inl called) = longer old.history new.history _ called.added
calls_grow two_way greatest session command old answer new (inr lost) = omega (arith, ap (λ t. length t.history) lost.same)

pub files_grow : {E : Type 0} (greatest : E → Bool) (report : Told E) (old : TableView E) (answer : Filed) (new : TableView E) → Files greatest report old answer new → length old.history ≤ length new.history
files_grow greatest report old answer new (inl filed) = longer old.history new.history _ filed.added
files_grow greatest report old answer new (inr lost) = omega (arith, ap (λ t. length t.history) lost.same)
