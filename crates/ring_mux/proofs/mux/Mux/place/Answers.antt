-- A group that runs has a place.
use Rattle.std.proofs.Common.{sym}
use Rattle.ring_mux.proofs.Places.{place_shows}
use Rattle.ring_mux.proofs.Seats.{runs_of}
use Rattle.ring_mux.proofs.mux.Mux.place.Goals as goal

pub returns : goal.returns
returns g c =
    rw (c.ok_or.ensures.value, ← c.self.view_is)
    (place_shows g.E.RingElection.winner c.args.group c.self.inside.book c.place.ensures.kept (c.in_ok-running.ensures.0) (runs_of c.args.group c.self.inside.book _ (c.in_ok-running.ensures.1)) _ (sym c.place.ensures.value))
