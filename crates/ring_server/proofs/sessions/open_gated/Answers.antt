use Rattle.std.proofs.Common.{◌≡◌, ◌+◌, ◌-◌, ◌/◌, ◌^◌, ◌∙◌, All, ap, sym, subst, length, arith}
use Rattle.std.proofs.lemmas.List.Elements.{All-drop, All-take}
use Rattle.std.proofs.lemmas.List.FromFn.{length-map-range_with_len}
use Rattle.ring_turn.proofs.Returning.{all_are_of_lock}
use Rattle.ring_server.proofs.Crossing.{access_sync}
use Rattle.ring_server.proofs.Turned.{all_have_turns}
use Rattle.ring_server.proofs.sessions.open_gated.Goals as goal

-- there are as many seats as were asked for
pub split_off-requires : goal.split_off-requires
split_off-requires g c =
    let counted : length c.in-Ok.seats.items ≡ c.args.config.now.workers + c.args.sessions = ap length c.in-Ok.ensures.seats ∙ length-map-range_with_len _ 0 _ in
    let same = c.in-Ok.seats.ok.0 in omega (arith, counted, same)

-- the table may be shared among threads
pub gated-requires-sync-A : goal.gated-requires-sync-A
gated-requires-sync-A g c κs within = record { shared = (access_sync _ g.T.Tabled c.type_bounds.send-T).shared }

-- the first seats are the workers', and all are of the lock
pub gated-requires-clause-seats : goal.gated-requires-clause-seats
gated-requires-clause-seats g c κs within =
    let all = all_are_of_lock _ _ _ _ _ c.in-Ok.ensures.seats in
    let first = subst (All (λ seat. seat.lock ≡ c.in-Ok.lock.id)) (sym c.in_ok-session_seats.ensures.items) (All-take (λ seat. seat.lock ≡ c.in-Ok.lock.id) c.args.config.now.workers c.in-Ok.seats.items all) in (
      sym c.split_off.new.self.ok.0 ∙ c.in_ok-session_seats.ensures.len,
      subst (λ lock. All (λ seat. seat.lock ≡ lock.id) c.split_off.new.self.items) (sym (c.in-Ok-new.ensures.ok ∙ c.new-2.ensures)) first,
    )

-- the others are the sessions'
pub returns-in-Ok-gated-clause-seats : goal.returns-in-Ok-gated-clause-seats
returns-in-Ok-gated-clause-seats g c =
    let counted : length c.in-Ok.seats.items ≡ c.args.config.now.workers + c.args.sessions = ap length c.in-Ok.ensures.seats ∙ length-map-range_with_len _ 0 _ in
    let same = c.in-Ok.seats.ok.0 in
    let tail = c.in_ok-session_seats.ensures.tail_len in omega (arith, counted, same, tail)

pub returns-in-Ok-gated-clause-theirs : goal.returns-in-Ok-gated-clause-theirs
returns-in-Ok-gated-clause-theirs g c =
    let all = all_are_of_lock _ _ _ _ _ c.in-Ok.ensures.seats in
    let others = subst (All (λ seat. seat.lock ≡ c.in-Ok.lock.id)) (sym c.in_ok-session_seats.ensures.tail) (All-drop (λ seat. seat.lock ≡ c.in-Ok.lock.id) c.args.config.now.workers c.in-Ok.seats.items all) in
    subst (λ lock. All (λ seat. seat.lock ≡ lock.id) c.in_ok-session_seats.session_seats.items) (sym (c.in-Ok-gated.ensures ∙ c.in-Ok-new.ensures.ok ∙ c.new-2.ensures)) others

pub returns-in-Ok-gated-clause-turns : goal.returns-in-Ok-gated-clause-turns
returns-in-Ok-gated-clause-turns g c =
    let turns = (2 ^ 64 - 1) / (c.args.config.now.workers + c.args.sessions) in
    let all = all_have_turns _ turns _ _ _ c.in-Ok.ensures.seats in
    subst (All (λ seat. seat.left ≡ turns)) (sym c.in_ok-session_seats.ensures.tail) (All-drop (λ seat. seat.left ≡ turns) c.args.config.now.workers c.in-Ok.seats.items all)
