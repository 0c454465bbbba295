use Rattle.std.proofs.Common.{◌≤◌, take}
use Rattle.ring_http.specs.Asking.{AddsPictures, IsPlaceFrom}
use Rattle.ring_http.proofs.asking.Asker.pictures.Given as goal

-- the groups so far
abbrev pub invariant-loop-name : goal.invariant-loop-name
invariant-loop-name g l = record {
  has : g.A.Access.has_seat l.fn.self.access.now l.seat;
  adds : AddsPictures l.fn.self.session (take l.name-index l.names) l.groups.items (g.A.Access.mine l.fn.seat) (g.A.Access.mine l.seat);
  kept : IsPlaceFrom l.fn.self.base g.A.Access.most l.fn.place → IsPlaceFrom l.fn.self.base g.A.Access.most l.place;
  rises : l.fn.place ≤ l.place;
}
