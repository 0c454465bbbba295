-- A turn that was open has ended, and the seat is as it was.
use Rattle.std.proofs.Common.{◌≡◌, ℕ, ap, sym, subst, ◌∙◌}
use Rattle.atomic_table.specs.Seated.{TableId}
use Rattle.ring_turn.specs.Seats.{SeatView, Settled, seat_of, with_hand}
use Rattle.ring_turn.specs.private.Seats.{seen_at}
use Rattle.ring_turn.proofs.lock.TurnLock.release.Given.{Over}
use Rattle.ring_turn.proofs.lock.TurnLock.release.Goals as goal
use Rattle.ring_turn.proofs.lock.TurnLock.release.Goals.{After-put_back}

pub returns : goal.returns
returns g c =
    ap (λ hand. seat_of c.put_back.new.token.table_id c.seat.inside.left (with_hand hand c.put_back.new.token.me.0)) c.take-hand.ensures.after ∙ c.put_back.ensures.same c.seat.inside.left
    ∙ ap (λ hand. seat_of c.seat.inside.token.table_id c.seat.inside.left (with_hand hand c.seat.inside.token.me.0)) c.take-hand.ensures.value ∙ c.seat.view_is

-- the seat as it was, whatever its lock and its turns are
same : (g : Over) (c : After-put_back g) (id : TableId) (left : ℕ) → seat_of id left (with_hand c.take-hand.new.self c.put_back.new.token.me.0) ≡ seat_of id left (with_hand c.seat.inside.hand c.seat.inside.token.me.0)
same g c id left =
    ap (λ hand. seat_of id left (with_hand hand c.put_back.new.token.me.0)) c.take-hand.ensures.after ∙ ap (λ (v : SeatView g.row.E.Denot). record v { lock = id }) (c.put_back.ensures.same left)
    ∙ ap (λ hand. seat_of id left (with_hand hand c.seat.inside.token.me.0)) c.take-hand.ensures.value

pub invariant_of-seat : goal.invariant_of-seat
invariant_of-seat g c = record {
  budget = rw c.put_back.ensures.budget c.seat.invariant.budget;
  seat = rw c.take-hand.ensures.after (record { stage = cc; lives = c.put_back.ensures.idle.lives; seats_none = c.put_back.ensures.idle.seats_none; own = c.put_back.ensures.idle.own; empty = c.put_back.ensures.idle.empty });
  surely = λ is id left. subst (λ (v : SeatView g.row.E.Denot). Settled v) (sym (same g c id left)) (c.seat.invariant.surely is id left);
  owing = λ some id left. c.seat.invariant.owing some id left ∙ ap (λ (v : SeatView g.row.E.Denot). seen_at v) (sym (same g c id left));
}
