-- A turn that was open has ended, and then the seat was settled.
use Rattle.std.proofs.Common.{◌≡◌, ◌-◌, ◌<◌, ◌≤◌, ap, refl, sym, subst, ◌∙◌, inr, arith}
use Rattle.ring_turn.specs.Calls.{Passes}
use Rattle.ring_turn.specs.Seats.{SeatView, Settled, seat_of, with_hand}
use Rattle.ring_turn.specs.private.Seats.{IsHanded, seen_at}
use Rattle.ring_turn.proofs.Calling.{same_after_pass}
use Rattle.ring_turn.proofs.lock.TurnLock.settle.Given.{Over}
use Rattle.ring_turn.proofs.lock.TurnLock.settle.Goals as goal
use Rattle.ring_turn.proofs.lock.TurnLock.settle.Goals.{After-settle_by}

-- a settled seat is as it was
pub returns-then-seat-eq0-clause-settled : goal.returns-then-seat-eq0-clause-settled
returns-then-seat-eq0-clause-settled g c =
    subst (λ seat. Settled seat) c.seat.view_is (c.seat.invariant.surely (omega (arith, c.if-seat-eq0.true)) c.seat.inside.token.table_id c.seat.inside.left)

pub settle_by-requires-clause-owes : goal.settle_by-requires-clause-owes
settle_by-requires-clause-owes g c =
    let some : 0 < c.seat.inside.owes = omega (arith, c.if-seat-eq0.false) in
    c.seat.invariant.owing (λ none. omega arith) c.put_back.new.token.table_id c.seat.inside.left
    ∙ ap (λ hand. seen_at (seat_of c.put_back.new.token.table_id c.seat.inside.left (with_hand hand c.seat.inside.token.me.0))) (sym c.take-hand.ensures.value)
    ∙ ap (λ (v : SeatView g.row.E.Denot). seen_at v) (sym (c.put_back.ensures.same c.seat.inside.left))

pub invariant_of-seat : goal.invariant_of-seat
invariant_of-seat g c =
    let enough : c.seat.inside.left ≤ c.seat.inside.token.me.0.budget = c.seat.invariant.budget in
    let same : c.put_back.new.token.me.0.budget ≡ c.seat.inside.token.me.0.budget = c.put_back.ensures.budget in
    let fewer : c.put_back.new.token.me.0.budget - 1 ≤ c.settle_by.new.token.me.0.budget = c.settle_by.ensures.settles.budget in
    record {
      budget = omega arith;
      seat = subst (λ hand. IsHanded hand c.settle_by.new.token.me) (sym c.take-hand.ensures.after) c.settle_by.ensures.settles.idle;
      surely = λ none id left. subst (λ hand. Settled (seat_of id left (with_hand hand c.settle_by.new.token.me.0))) (sym c.take-hand.ensures.after) (c.settle_by.ensures.settles.settled id left);
      owing = λ some. absurd (some refl);
    }

-- the turn that was used
pass : (g : Over) (c : After-settle_by g) → Passes c.args.seat.now (seat_of c.settle_by.new.token.table_id (c.seat.inside.left - 1) (with_hand c.take-hand.new.self c.settle_by.new.token.me.0))
pass g c =
    let before : seat_of c.seat.inside.token.table_id c.seat.inside.left c.put_back.new.token.me.0 ≡ c.args.seat.now =
    ap (λ (v : SeatView g.row.E.Denot). record v { lock = c.seat.inside.token.table_id }) (c.put_back.ensures.same c.seat.inside.left)
    ∙ ap (λ hand. seat_of c.seat.inside.token.table_id c.seat.inside.left (with_hand hand c.seat.inside.token.me.0)) c.take-hand.ensures.value ∙ c.seat.view_is in
    let here : c.settle_by.new.token.table_id ≡ c.seat.inside.token.table_id = c.settle_by.ensures.here ∙ c.put_back.ensures.here in
    subst (λ (y : SeatView g.row.E.Denot × SeatView g.row.E.Denot). Passes y.0 y.1)
    (λ i. (before i, seat_of (sym here i) (c.seat.inside.left - 1) (with_hand (sym c.take-hand.ensures.after i) c.settle_by.new.token.me.0)))
    (c.settle_by.ensures.settles.passes c.seat.inside.token.table_id c.seat.inside.left c.wait_for_turns.ensures)

pub returns-clause-same : goal.returns-clause-same
returns-clause-same g c = same_after_pass _ _ (pass g (goal.at.returns-clause-same g c).After-settle_by)

pub returns-clause-passed : goal.returns-clause-passed
returns-clause-passed g c = inr (pass g (goal.at.returns-clause-passed g c).After-settle_by)

pub returns-clause-settled : goal.returns-clause-settled
returns-clause-settled g c =
    subst (λ hand. Settled (seat_of c.settle_by.new.token.table_id (c.seat.inside.left - 1) (with_hand hand c.settle_by.new.token.me.0))) (sym c.take-hand.ensures.after) (c.settle_by.ensures.settles.settled _ _)
