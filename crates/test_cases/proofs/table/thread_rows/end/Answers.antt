use Rattle.std.proofs.Common.{rules, ◌≡◌, [], ◌∷◌, sym, subst}
use Rattle.ring_turn.specs.Seats.{HasAllSeats}
use Rattle.ring_turn.proofs.Returning.{row_is_all}
use Rattle.test_cases.proofs.table.thread_rows.end.Goals as goal

-- the three seats are in a row
pub close-table-requires : goal.close-table-requires
close-table-requires g c =
    let seats = c.args.seats in
    let all : c.push_reserved-3.new.self.items ≡ seats.0 ∷ seats.1 ∷ seats.2 ∷ [] = search rules in
    let are = c.requires in
    subst (λ row. HasAllSeats c.args.lock row) (sym all)
    (row_is_all c.args.lock (seats.0 ∷ seats.1 ∷ seats.2 ∷ [])
    (are.first.0, are.first.1, (are.second.0, are.second.1, (are.third.0, are.third.1, tt))) are.three)
