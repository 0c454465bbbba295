use Rattle.std.proofs.Common.{◌≤◌, take}
use Rattle.ring_http.specs.Asking.{IsPlaceFrom}
use Rattle.ring_http.specs.private.Asking.{AddsEach}
use Rattle.ring_http.proofs.asking.Asker.informed.Given as goal

-- the members so far
abbrev pub invariant-loop-member : goal.invariant-loop-member
invariant-loop-member g l = record {
  has : g.A.Access.has_seat l.fn.self.access.now l.seat;
  each : AddsEach l.fn.self.session l.fn.name (take l.member-index l.members) l.informed.items (g.A.Access.mine l.fn.seat) (g.A.Access.mine l.seat);
  kept : IsPlaceFrom l.fn.self.base g.A.Access.most l.fn.place → IsPlaceFrom l.fn.self.base g.A.Access.most l.place;
  rises : l.fn.place ≤ l.place;
}
