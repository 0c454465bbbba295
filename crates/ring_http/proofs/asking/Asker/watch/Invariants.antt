use Rattle.ring_http.specs.Asking.{IsPlaceAfter}
use Rattle.ring_http.specs.private.Picturing.{AddsWatched}
use Rattle.ring_http.proofs.asking.Asker.watch.Given as goal

-- the last picture, behind other questions
abbrev pub invariant-loop : goal.invariant-loop
invariant-loop g l = record {
  has : g.A.Access.has_seat l.fn.self.access.now l.seat;
  watched : AddsWatched l.fn.self.session l.fn.name l.shown (g.A.Access.mine l.fn.seat) (g.A.Access.mine l.seat);
  placed : IsPlaceAfter l.fn.self.base g.A.Access.most l.fn.place l.place;
}
