-- A seat tells how many entries are kept for good, and another learns it: both keep the rule, and a seat that
-- learned enough is settled.
use Rattle.std.proofs.Common.{◌≡◌, ◌≢◌, ℕ, ◌+◌, ◌-◌, ◌≤◌, true, List, length, set, sym, refl, ap, ◌∙◌, subst, inr, arith}
use Rattle.std.specs.Prelude.{slice_index, slice_set, None, Some}
use mathlib.Core.Option.{some, none}
use mathlib.Core.Logic.{dite}
use native.Mathlib.Decide.{dec_le}
use lib.ListN.{get_elem?}
use Rattle.atomic_table.specs.Seated.{TableId}
use Rattle.atomic_table.specs.Table.{State, Me, Allows, step, keeps}
use Rattle.atomic_table.proofs.Lists.{set_again}
use Rattle.ring_table.specs.Tables.{RecordedView, plain}
use Rattle.ring_turn.specs.Seats.{seat_of, with_hand}
use Rattle.ring_turn.specs.declared.view.TokenView.{TokenView}
use Rattle.ring_turn.specs.declared.view.Stage.TheVariants.{Idle}
use Rattle.ring_turn.specs.private.Rule.{TableSlot, Ledger, Fits, Keeps, budgets, waiting, tickets_at}
use Rattle.ring_turn.specs.private.Seats.{IsIdle, Parts, Reaches, Settles}
use Rattle.ring_turn.specs.private.Steps.{Learns, Tells, learned, seen_by}
use Rattle.ring_turn.proofs.Calling.{open_after_settling, passed, settled_seat}
use Rattle.ring_turn.proofs.Drawing.{same_state}
use Rattle.ring_turn.proofs.Histories.{starts_whole}
use Rattle.ring_turn.proofs.Places.{each_after_set, total_after_set}
use Rattle.ring_turn.proofs.Stages.{away_stays, held_is_ticket, idle_no_ticket}

module _ {E : Type 0} where
  -- a seat may tell of entries that it knows to be kept for good
  pub tells : (slots place many : ℕ) (me : Me (TableSlot E) (TokenView E)) → me.0.lives ≡ true → many ≤ me.0.sure → Allows Keeps slots place me 2 (λ _. many) (λ _. Tells (step slots 2 many 0 none) me many)
  tells slots place many me lives knows s h one at range =
      let surely : me.0.sure ≤ h.ledger.turned.sure = ((h.fits place me.0 at).seat lives).surely in
      let told : Keeps (record { words = slice_set s.words 2 many; homes = s.homes; views = s.views }) = record {
        ledger = h.ledger;
        told = many;
        words = ap (λ (ws : List ℕ). slice_set ws 2 many) h.words;
        known = omega arith;
        small = h.small;
        few = h.few;
        tickets = h.tickets;
        home = h.home;
        away = h.away;
        later = h.later;
        fits = h.fits;
      } in (
        me.0,
        keeps,
        tt,
        subst Keeps (λ k. record { words = slice_set s.words 2 many; homes = s.homes; views = sym (set_again s.views place me.0 at) k }) told,
        refl,
      )

  -- a seat that learned of more entries keeps the rule
  knows_more : (place : ℕ) (v : TokenView E) (s : State (TableSlot E) (TokenView E)) → v.lives ≡ true → v.stage ≡ Idle → (h : Keeps s) → get_elem? s.views place ≡ some v
      → Keeps (record { words = slice_set s.words 2 (slice_index s.words 2); homes = s.homes; views = set s.views place (learned (slice_index s.words 2) v) })
  knows_more place v s lives idle h at =
      let L : Ledger E = h.ledger in
      let found : slice_index s.words 2 ≡ h.told = ap (λ (ws : List ℕ). slice_index ws 2) h.words in
      let w : TokenView E = learned (slice_index s.words 2) v in
      let mine : Fits L place v = h.fits place v at in
      let living = mine.seat lives in
      let views : List (TokenView E) = set s.views place w in
      let sums : budgets views + v.budget ≡ budgets s.views + v.budget = total_after_set (λ u. u.budget) s.views place v w at in
      let waits : waiting views + tickets_at v.stage ≡ waiting s.views + tickets_at v.stage = total_after_set (λ u. tickets_at u.stage) s.views place v w at in
      let few : L.queue.drawn + budgets s.views ≤ L.limit = h.few in
      let tickets : L.queue.served + waiting s.views ≡ L.queue.drawn = h.tickets in
      let one : v.sure ≤ L.turned.sure = living.surely in
      let two : h.told ≤ L.turned.sure = h.known in
      let here : Fits L place w = record {
        ticket = mine.ticket;
        slot = mine.slot;
        seat = λ _. record { numbered = living.numbered; seated = living.seated; own = living.own; starts = living.starts; opened = living.opened; apart = living.apart; surely = omega arith };
        base = λ makes. absurd (living.apart (sym (mine.base makes).placed));
      } in
      let others = λ (j : ℕ) (u : TokenView E) (apart : j ≢ place) (e : get_elem? s.views j ≡ some u). h.fits j u e in
      record {
        ledger = L;
        told = h.told;
        words = ap (λ (ws : List ℕ). slice_set ws 2 (slice_index ws 2)) h.words;
        known = h.known;
        small = h.small;
        few = omega arith;
        tickets = omega arith;
        home = h.home;
        away = λ out. away_stays L.queue.served s.homes s.views place v w at (λ held. idle_no_ticket L.queue.served v.stage idle (held_is_ticket L.queue.served v.stage held)) (h.away out);
        later = h.later;
        fits = each_after_set (Fits L) s.views place w here others;
      }

  -- an idle seat may look whether all entries that it has seen are told to be kept for good
  pub learns : (slots place : ℕ) (me : Me (TableSlot E) (TokenView E)) → me.0.lives ≡ true → me.0.stage ≡ Idle → Allows Keeps slots place me 2 (λ n. n) (Learns (step slots 2 0 0 none) me)
  learns slots place me lives idle s h one at range =
      dite (dec_le (seen_by me.0) (slice_index s.words 2))
      (λ (enough : seen_by me.0 ≤ slice_index s.words 2). (
        learned (slice_index s.words 2) me.0,
        keeps,
        tt,
        knows_more place me.0 s lives idle h at,
        record { enough = λ _. refl; too_few = λ never. absurd (never enough) },
      ))
      (λ (few : seen_by me.0 ≤ slice_index s.words 2 → ⊥). (
        me.0,
        keeps,
        tt,
        same_state place 2 me.0 s h at (ap (λ (ws : List ℕ). slice_set ws 2 (slice_index ws 2)) h.words ∙ sym h.words),
        record { enough = λ enough. absurd (few enough); too_few = λ _. refl },
      ))

  -- a seat that learned enough is settled
  pub settles_by_look : (found : ℕ) (me now : Me (TableSlot E) (TokenView E)) → IsIdle me → seen_by me.0 ≤ found → now ≡ (learned found me.0, me.1) → Settles me now
  settles_by_look found me now idle enough is =
      subst (Settles me) (sym is)
      (record {
        idle = record { stage = idle.stage; lives = idle.lives; seats_none = idle.seats_none; own = idle.own; empty = idle.empty };
        budget = let fewer : me.0.budget - 1 ≤ me.0.budget = omega arith in fewer;
        passes = λ id left some. record {
          some_left = some;
          log = me.0.seen;
          starts = starts_whole me.0.seen;
          own = idle.own;
          sure = me.0.sure + (found - me.0.sure);
          keeps = let more : me.0.sure ≤ me.0.sure + (found - me.0.sure) = omega arith in more;
          is = refl;
        };
        settled = λ id left. record { all = inr (let all : seen_by me.0 ≤ me.0.sure + (found - me.0.sure) = omega arith in all) };
      })

  -- and so is one that had all entries of the table kept for good in a turn
  pub settles_by_turn : (me now then : Me (TableSlot E) (TokenView E)) (table new : RecordedView E) → Reaches None me table now → plain new ≡ plain table → table.sure ≤ new.sure → length new.history ≤ new.sure
      → IsIdle then → then.0.budget ≡ now.0.budget → ((id : TableId) (left : ℕ) → seat_of id left then.0 ≡ seat_of id left (with_hand (Some new) now.0)) → Settles me then
  settles_by_turn me now then table new reached same no_less all idle budget shown =
      let parted : Parts new now None then = record { seat = idle; budget = budget; same = shown } in
      let fewer : me.0.budget - 1 ≤ now.0.budget = reached.budget in
      record {
        idle = idle;
        budget = omega arith;
        passes = λ id left some. passed id id left None None me now then table new some reached same no_less parted refl;
        settled = λ id left. settled_seat id left None now then new (open_after_settling now table new same no_less reached.ready) all parted;
      }
