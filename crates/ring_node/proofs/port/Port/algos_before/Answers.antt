-- The announcement is before the place, or it isn't.
use Rattle.std.proofs.Common.{◌≡◌, ◌≤◌, true, false, nat_lt, length, Some, None, sym, ◌∙◌, arith}
use Rattle.std.proofs.lemmas.Bool.Decides.{nat_tests}
use Rattle.ring_node.specs.private.Journals.{leader_place}
use Rattle.ring_node.proofs.Announcing.{counted_before}
use Rattle.ring_node.proofs.port.Port.algos_before.Goals as goal

pub returns-in-Some : goal.returns-in-Some
returns-in-Some g c =
    let sent = c.args.self.now.sent.items in
    let within : c.args.place ≤ length sent = omega (arith, c.requires.within, c.args.self.now.sent.ok.0) in
    let place : leader_place sent ≡ Some c.in-Some.announced = sym c.args.self.now.announced_is ∙ c.in-Some.is in
    let before : nat_lt c.in-Some.announced c.args.place ≡ true = grind (arith, nat_tests, c.if-announced-place.true) in
    sym (rw (place, before) at (counted_before sent c.args.place c.requires.once within))

pub returns-in_default : goal.returns-in_default
returns-in_default g c =
    let sent = c.args.self.now.sent.items in
    let within : c.args.place ≤ length sent = omega (arith, c.requires.within, c.args.self.now.sent.ok.0) in
    let place : leader_place sent ≡ Some c.in-Some.announced = sym c.args.self.now.announced_is ∙ c.in-Some.is in
    let behind : nat_lt c.in-Some.announced c.args.place ≡ false = grind (arith, nat_tests, c.if-announced-place.false) in
    sym (rw (place, behind) at (counted_before sent c.args.place c.requires.once within))

pub returns-in_default-2 : goal.returns-in_default-2
returns-in_default-2 g c =
    let sent = c.args.self.now.sent.items in
    let within : c.args.place ≤ length sent = omega (arith, c.requires.within, c.args.self.now.sent.ok.0) in
    let place : leader_place sent ≡ None = sym c.args.self.now.announced_is ∙ c.in_default.is in
    sym (rw place at (counted_before sent c.args.place c.requires.once within))
