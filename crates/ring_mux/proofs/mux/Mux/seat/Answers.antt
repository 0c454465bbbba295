-- The position on the running ring is a seat.
use Rattle.std.proofs.Common.{sym, ◌∙◌}
use Rattle.ring_mux.proofs.Places.{at_place, has_place}
use Rattle.ring_mux.proofs.Seats.{seat_of}
use Rattle.ring_mux.proofs.mux.Mux.seat.Goals as goal

pub returns-in_default-place : goal.returns-in_default-place
returns-in_default-place g c =
    let runs = c.in_ok-charter.ensures.1 in
    absurd (has_place g.E.RingElection.winner c.args.group c.self.inside.book runs.group c.place.ensures.kept runs.found (sym c.place.ensures.value ∙ c.in_default-place.is))

pub returns : goal.returns
returns g c =
    let placed = rw (c.roster.ensures, c.deref.ensures) at c.in-Some.ensures in
    let seat = seat_of c.args.group c.self.inside.book _ c.args.node c.in-Some.position (c.in_ok-charter.ensures.1) (sym placed) in
    rw (← c.self.view_is) (seat.0, (at_place g.E.RingElection.winner c.args.group c.in-Some-place.place c.self.inside.book (sym c.in-Some-place.ensures.value) c.place.ensures.kept, seat.1))
