-- The table was settled in a turn, and the seat tells what it knows then.
use Rattle.std.proofs.Common.{◌≡◌, ◌≤◌, length, ap, sym, subst, ◌∙◌, arith}
use Rattle.ring_turn.specs.Seats.{SeatView}
use Rattle.ring_turn.specs.private.Seats.{Settles}
use Rattle.ring_turn.proofs.Keeping.{settles_by_turn, tells}
use Rattle.ring_turn.proofs.lock.TurnLock.settle_table.Goals as goal

pub store-requires : goal.store-requires
store-requires g c =
    let same : c.put_back.new.token.me.0.sure ≡ c.settle.new.self.sure = ap (λ (v : SeatView g.row.E.Denot). v.sure) (c.put_back.ensures.same 0) in
    let all : length c.settle.new.self.history ≤ c.settle.new.self.sure = c.settle.ensures.all in
    let many : c.entries-kept.result ≡ length c.settle.new.self.history = c.entries-kept.ensures.many in (
      c.put_back.ensures.here ∙ c.reach-table.ensures.here ∙ c.requires.here ∙ sym (ap (λ v. v.id) c.self.view_is),
      omega (arith, c.self.invariant.words),
      tells _ _ _ _ c.put_back.ensures.idle.lives (omega arith),
    )

pub returns-clause-settles : goal.returns-clause-settles
returns-clause-settles g c =
    subst (λ me. Settles c.args.token.now.me me) (sym c.store.ensures.2)
    (settles_by_turn _ c.reach-table.new.token.me c.put_back.new.token.me c.reach-table.result c.settle.new.self c.reach-table.ensures.reached c.settle.ensures.same c.settle.ensures.sure c.settle.ensures.all c.put_back.ensures.idle c.put_back.ensures.budget
    (λ id left. ap (λ (v : SeatView g.row.E.Denot). record v { lock = id }) (c.put_back.ensures.same left)))
