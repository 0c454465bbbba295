-- The seats that a lock was opened with have all their turns.
use Rattle.std.proofs.Common.{◌≡◌, ℕ, List, All, refl, subst, sym}
use Rattle.std.specs.List.{range_with_len}
use Rattle.std.proofs.lemmas.List.Elements.{All-map}
use Rattle.atomic_table.specs.Seated.{TableId}
use Rattle.ring_table.specs.declared.entry.Entry.{Entry}
use Rattle.ring_turn.specs.Seats.{SeatView, fresh_seat, fresh_seats}

-- each of the seats that a lock was opened with has all its turns left
pub all_have_turns : {E : Type 0} (id : TableId) (turns seats : ℕ) (opening : List (Entry E)) (all : List (SeatView E)) → all ≡ fresh_seats id turns opening seats → All (λ (seat : SeatView E). seat.left ≡ turns) all
all_have_turns id turns seats opening all fresh =
    subst (All (λ (seat : SeatView _). seat.left ≡ turns)) (sym fresh) (All-map (λ (seat : SeatView _). seat.left ≡ turns) (fresh_seat id turns opening) (range_with_len 0 seats) (λ k number within. refl))
