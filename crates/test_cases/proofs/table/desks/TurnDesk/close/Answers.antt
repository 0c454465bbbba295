use Rattle.std.proofs.Common.{rules, ◌≡◌, [], ◌∷◌, sym, subst}
use Rattle.ring_turn.specs.Seats.{HasAllSeats}
use Rattle.ring_turn.proofs.Returning.{row_is_all}
use Rattle.test_cases.proofs.table.desks.TurnDesk.close.Goals as goal

-- the one seat is all that the lock has
pub close-requires : goal.close-requires
close-requires g c =
    let all : c.push_reserved.new.self.items ≡ c.self.inside.seat ∷ [] = search rules in
    let are = c.self.invariant in
    subst (λ row. HasAllSeats c.self.inside.lock row) (sym all)
    (row_is_all c.self.inside.lock (c.self.inside.seat ∷ []) (are.1, are.2, tt) are.0)
