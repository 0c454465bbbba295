-- The addresses before this one gave nothing.
use Rattle.std.specs.Prelude.{None}
use Rattle.std.specs.Fn.{FnReturnsAt}
use Rattle.std.specs.List.{AllWithin}
use Rattle.ringctl.proofs.client.first_of.Given as goal

abbrev pub invariant-loop-address : goal.invariant-loop-address
invariant-loop-address g l =
    AllWithin (λ address. FnReturnsAt g.F.Fn l.connect address.now None) l.addresses 0 l.address-index
