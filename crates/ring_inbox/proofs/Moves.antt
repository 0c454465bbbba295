-- Each move of a pass keeps the rule of the inbox, and gives the fact that its call claims.
use Rattle.std.proofs.Common.{◌≡◌, ◌≢◌, ◌==◌, ℕ, ◌+◌, ◌<◌, ◌≤◌, Bool, true, false, true≢false, if◌then◌else◌, List, [], ◌∷◌, ◌++◌, length, set, sym, refl, ap, ◌∙◌, subst, ⊎_elim, eq-eqb, ne_eqb, lt_of_not-le, length-append, arith}
use Rattle.std.proofs.lemmas.List.Elements.{All-nil}
use mathlib.Core.Option.{some}
use lib.ListN.{get_elem?}
use Rattle.crossbeam_channel.specs.Fifo.{Pushes, Pops, Forks, Merges, Learns}
use Rattle.ring_inbox.specs.declared.rule.Known.{Known}
use Rattle.ring_inbox.specs.Inbox.{Moment, IsLegal, IsSenderAt, IsReceiverAt, items_of, with_stored}
use Rattle.ring_inbox.specs.private.Rule.{Ledger, met, moment_of, HaveStored, IsSender, IsReceiver, Fits, Holds, SenderSees, ReceiverSees, IsStored, IsTaken, Compares}
use Rattle.ring_inbox.specs.Rule.{receiver, sender, nobody}
use Rattle.ring_inbox.proofs.Views.{element_after_set, Each, each_of_none, each_after_set, each_after_push}
use Rattle.ring_inbox.proofs.Steps.{legal_after_store, legal_after_take, with_stored-own, with_stored-other, with_stored-longer, have_stored_more, all_taken_if_empty, room_if_alone, items_of-shorter}

-- a view that has no such role asks nothing
no_role : {A : Type 0} → false ≡ true → A
no_role is = absurd (true≢false (sym is))

module _ {T : Type 0} where
  -- in any ledger, a pass that is no longer used knows nothing
  fits_nobody : (ledger : Ledger T) (pass : ℕ) → Fits ledger pass nobody
  fits_nobody ledger pass = record { sends = no_role; gets = no_role }

  -- the knowledge of a sender's pass is true if it is that sender's
  fits_sender : (ledger : Ledger T) (pass capacity senders number : ℕ) (stored : List T) (seen : ℕ) → IsSender ledger pass (sender capacity senders number stored seen) → Fits ledger pass (sender capacity senders number stored seen)
  fits_sender ledger pass capacity senders number stored seen is = record { sends = λ _. is; gets = no_role }

  -- the knowledge of the receiver's pass is true if it is the receiver's
  fits_receiver : (ledger : Ledger T) (pass capacity senders made : ℕ) (taken : List (ℕ × T)) (heard : List (ℕ × ℕ)) → IsReceiver ledger pass (receiver capacity senders made taken heard) → Fits ledger pass (receiver capacity senders made taken heard)
  fits_receiver ledger pass capacity senders made taken heard is = record { sends = no_role; gets = λ _. is }

  -- a pass other than the receiver's does not receive
  not_reader : (ledger : Ledger T) (pass other : ℕ) (v : Known T) {A : Type 0} → pass ≡ ledger.reader → other ≢ pass → Fits ledger other v → v.gets ≡ true → A
  not_reader ledger pass other v reads apart fits may = absurd (apart ((fits.gets may).seated ∙ sym reads))

  -- the front of the queue is of a sender that was made
  front_is_made : (p : ℕ) (x : T) (queue : List (ℕ × T)) (views : List (Known T)) → (h : Holds ((p, x) ∷ queue) views) → p < h.ledger.made
  front_is_made p x queue views h = lt_of_not-le (λ late.
      let own : [] ≡ items_of p h.ledger.taken ++ (if p == p then x ∷ items_of p queue else items_of p queue) = sym (h.later p late) ∙ h.legal.in_order p in
      let front : [] ≡ items_of p h.ledger.taken ++ x ∷ items_of p queue = own ∙ ap (λ (b : Bool). items_of p h.ledger.taken ++ (if b then x ∷ items_of p queue else items_of p queue)) (eq-eqb p p refl) in
      let none : 0 ≡ length (items_of p h.ledger.taken ++ x ∷ items_of p queue) = ap length front in
      omega (arith, none, length-append (items_of p h.ledger.taken) (x ∷ items_of p queue)))

  -- if no sender was made, the queue is empty
  empty_before_senders : (queue : List (ℕ × T)) (views : List (Known T)) → (h : Holds queue views) → h.ledger.made ≡ 0 → queue ≡ []
  empty_before_senders [] views h none = refl
  empty_before_senders (m ∷ queue) views h none = absurd (let made : m.0 < h.ledger.made = front_is_made m.0 m.1 queue views h in omega arith)

  -- a sender's pass is that of a sender of the inbox at this moment
  sender_at : (queue : List (ℕ × T)) (views : List (Known T)) (h : Holds queue views) (pass : ℕ) (v : Known T) → IsSender h.ledger pass v
      → IsSenderAt v.capacity v.senders v.number v.stored v.seen (moment_of h.ledger queue)
  sender_at queue views h pass v is =
      let few : h.ledger.made ≤ h.ledger.senders = h.few in
      let known : v.senders ≡ h.ledger.senders = is.senders in
      let numbered : v.number < h.ledger.made = is.numbered in
      record {
        legal = subst (λ (n : ℕ). IsLegal n (moment_of h.ledger queue)) (sym is.capacity) h.legal;
        own = sym is.stored;
        told = is.seen;
        numbered = omega arith;
        others = λ p late. h.later p (omega arith);
      }

  -- the receiver's pass is that of the receiver of the inbox at this moment
  receiver_at : (queue : List (ℕ × T)) (views : List (Known T)) (h : Holds queue views) (pass : ℕ) (v : Known T) → IsReceiver h.ledger pass v
      → IsReceiverAt v.capacity v.senders v.taken v.heard (moment_of h.ledger queue)
  receiver_at queue views h pass v is =
      let few : h.ledger.made ≤ h.ledger.senders = h.few in
      let known : v.senders ≡ h.ledger.senders = is.senders in
      record {
        legal = subst (λ (n : ℕ). IsLegal n (moment_of h.ledger queue)) (sym is.capacity) h.legal;
        own = sym is.taken;
        told = is.heard;
        others = λ p late. h.later p (omega arith);
      }

  -- the first pass is the receiver's, before the capacity is fixed and there are senders
  pub begins : Holds {T = T} [] (receiver 0 0 0 [] [] ∷ [])
  begins = let ledger : Ledger T = record { capacity = 0; senders = 0; made = 0; reader = 0; seat = λ _. 0; stored = λ _. []; taken = [] } in
      record {
        ledger = ledger;
        legal = record { in_order = λ _. refl; within = omega arith };
        few = omega arith;
        later = λ _ _. refl;
        fits = each_after_push (Fits ledger) [] (receiver 0 0 0 [] []) (each_of_none (Fits ledger))
            (fits_receiver ledger 0 0 0 0 [] [] (record { capacity = refl; senders = refl; made = refl; seated = refl; taken = refl; heard = All-nil _ }));
      }

  -- before there are senders, the receiver may fix the capacity and how many senders there will be
  pub sizes : (capacity senders pass : ℕ) → Forks (Holds {T = T}) pass (receiver 0 0 0 [] []) (receiver capacity senders 0 [] []) nobody
  sizes capacity senders pass queue views h at =
      let mine = (h.fits pass (receiver 0 0 0 [] []) at).gets refl in
      let ledger : Ledger T = record h.ledger { capacity = capacity; senders = senders } in
      let none : queue ≡ [] = empty_before_senders queue views h (sym mine.made) in
      let here = fits_receiver ledger pass capacity senders 0 [] [] (record { capacity = refl; senders = refl; made = mine.made; seated = mine.seated; taken = mine.taken; heard = All-nil _ }) in
      let others = λ (j : ℕ) (u : Known T) (apart : j ≢ pass) (e : get_elem? views j ≡ some u).
      let fits : Fits h.ledger j u = h.fits j u e in
      let now : Fits ledger j u = record {
        sends = λ may. absurd (let numbered = (fits.sends may).numbered in let made = mine.made in omega arith);
        gets = not_reader h.ledger pass j u mine.seated apart fits;
      } in now in
      record {
        ledger = ledger;
        legal = record { in_order = h.legal.in_order; within = let short : length queue ≡ 0 = ap length none in omega arith };
        few = let made : 0 ≡ h.ledger.made = mine.made in omega arith;
        later = h.later;
        fits = each_after_push (Fits ledger) (set views pass (receiver capacity senders 0 [] [])) nobody (each_after_set (Fits ledger) views pass (receiver capacity senders 0 [] []) here others) (fits_nobody ledger _);
      }

  -- the receiver may make one sender more, in a new pass, if there are to be more
  pub makes : (pass capacity senders made : ℕ) (taken : List (ℕ × T)) (heard : List (ℕ × ℕ)) → made < senders
      → Forks (Holds {T = T}) pass (receiver capacity senders made taken heard) (receiver capacity senders (made + 1) taken heard) (sender capacity senders made [] 0)
  makes pass capacity senders made taken heard more queue views h at =
      let mine = (h.fits pass (receiver capacity senders made taken heard) at).gets refl in
      let count : made ≡ h.ledger.made = mine.made in
      let all : senders ≡ h.ledger.senders = mine.senders in
      let left : Known T = receiver capacity senders (made + 1) taken heard in
      let old : List (Known T) = set views pass left in
      let ledger : Ledger T = record h.ledger { made = made + 1; seat = λ p. if p == made then length old else h.ledger.seat p } in
      let here = fits_receiver ledger pass capacity senders (made + 1) taken heard (record { capacity = mine.capacity; senders = mine.senders; made = refl; seated = mine.seated; taken = mine.taken; heard = mine.heard }) in
      let others = λ (j : ℕ) (u : Known T) (apart : j ≢ pass) (e : get_elem? views j ≡ some u).
      let fits : Fits h.ledger j u = h.fits j u e in
      let now : Fits ledger j u = record {
        sends = λ may. let is : IsSender h.ledger j u = fits.sends may in let numbered = is.numbered in record {
          capacity = is.capacity;
          senders = is.senders;
          numbered = omega arith;
          seated = ap (λ (b : Bool). (if b then length old else h.ledger.seat u.number)) (ne_eqb u.number made (λ same. omega arith)) ∙ is.seated;
          stored = is.stored;
          seen = is.seen;
        };
        gets = not_reader h.ledger pass j u mine.seated apart fits;
      } in now in
      let new = fits_sender ledger (length old) capacity senders made [] 0 (record {
        capacity = mine.capacity;
        senders = mine.senders;
        numbered = omega arith;
        seated = ap (λ (b : Bool). (if b then length old else h.ledger.seat made)) (eq-eqb made made refl);
        stored = sym (h.later made (omega arith));
        seen = omega arith;
      }) in
      record {
        ledger = ledger;
        legal = record { in_order = h.legal.in_order; within = h.legal.within };
        few = omega arith;
        later = λ p late. h.later p (omega arith);
        fits = each_after_push (Fits ledger) old (sender capacity senders made [] 0) (each_after_set (Fits ledger) views pass left here others) new;
      }

  -- a sender may store at the back, if there is room
  pub stores : (pass capacity senders number : ℕ) (stored : List T) (seen : ℕ) (x : T)
      → Pushes Holds capacity pass (sender capacity senders number stored seen) (number, x) (IsStored (sender capacity senders number stored seen) (number, x))
  stores pass capacity senders number stored seen x queue views room h at =
      let mine = (h.fits pass (sender capacity senders number stored seen) at).sends refl in
      let own : stored ≡ h.ledger.stored number = mine.stored in
      let numbered : number < h.ledger.made = mine.numbered in
      let now : Moment T = moment_of h.ledger queue in
      let is_at = sender_at queue views h pass (sender capacity senders number stored seen) mine in
      let after = legal_after_store capacity number x now is_at.legal room in
      let left : Known T = sender capacity senders number (stored ++ x ∷ []) seen in
      let ledger : Ledger T = record h.ledger { stored = with_stored number x h.ledger.stored } in
      let here = fits_sender ledger pass capacity senders number (stored ++ x ∷ []) seen (record {
        capacity = mine.capacity;
        senders = mine.senders;
        numbered = numbered;
        seated = mine.seated;
        stored = ap (λ (l : List T). l ++ x ∷ []) own ∙ sym (with_stored-own number x h.ledger.stored);
        seen = mine.seen;
      }) in
      let others = λ (j : ℕ) (u : Known T) (apart : j ≢ pass) (e : get_elem? views j ≡ some u).
      let fits : Fits h.ledger j u = h.fits j u e in
      let now : Fits ledger j u = record {
        sends = λ may. let is : IsSender h.ledger j u = fits.sends may in record {
          capacity = is.capacity;
          senders = is.senders;
          numbered = is.numbered;
          seated = is.seated;
          stored = is.stored ∙ sym (with_stored-other number u.number x h.ledger.stored (λ same. apart (sym is.seated ∙ ap h.ledger.seat (sym same) ∙ mine.seated)));
          seen = is.seen;
        };
        gets = λ may. let is : IsReceiver h.ledger j u = fits.gets may in record {
          capacity = is.capacity;
          senders = is.senders;
          made = is.made;
          seated = is.seated;
          taken = is.taken;
          heard = have_stored_more u.heard h.ledger.stored ledger.stored (with_stored-longer number x h.ledger.stored) is.heard;
        };
      } in now in (
        left,
        record {
          ledger = ledger;
          legal = subst (λ (n : ℕ). IsLegal n (moment_of ledger (queue ++ (number, x) ∷ []))) mine.capacity after;
          few = h.few;
          later = λ p late. with_stored-other number p x h.ledger.stored (λ same. let e : number ≡ p = same in omega arith) ∙ h.later p late;
          fits = each_after_set (Fits ledger) views pass left here others;
        },
        (refl, record { moment = now; is = is_at; room = room; legal_after = after }),
      )

  -- the receiver may take the front
  pub takes : (pass capacity senders made : ℕ) (taken : List (ℕ × T)) (heard : List (ℕ × ℕ))
      → Pops Holds pass (receiver capacity senders made taken heard) (IsTaken (receiver capacity senders made taken heard))
  takes pass capacity senders made taken heard m queue views h at =
      let mine = (h.fits pass (receiver capacity senders made taken heard) at).gets refl in
      let now : Moment T = moment_of h.ledger (m ∷ queue) in
      let is_at = receiver_at (m ∷ queue) views h pass (receiver capacity senders made taken heard) mine in
      let after = legal_after_take capacity m.0 m.1 queue now is_at.legal refl in
      let left : Known T = receiver capacity senders made (taken ++ m ∷ []) heard in
      let ledger : Ledger T = record h.ledger { taken = h.ledger.taken ++ m ∷ [] } in
      let here = fits_receiver ledger pass capacity senders made (taken ++ m ∷ []) heard (record {
        capacity = mine.capacity;
        senders = mine.senders;
        made = mine.made;
        seated = mine.seated;
        taken = ap (λ (l : List (ℕ × T)). l ++ m ∷ []) mine.taken;
        heard = mine.heard;
      }) in
      let others = λ (j : ℕ) (u : Known T) (apart : j ≢ pass) (e : get_elem? views j ≡ some u).
      let fits : Fits h.ledger j u = h.fits j u e in
      let now : Fits ledger j u = record {
        sends = λ may. let is : IsSender h.ledger j u = fits.sends may in record {
          capacity = is.capacity;
          senders = is.senders;
          numbered = is.numbered;
          seated = is.seated;
          stored = is.stored;
          seen = let seen = is.seen in omega (arith, length-append h.ledger.taken (m ∷ []));
        };
        gets = not_reader h.ledger pass j u mine.seated apart fits;
      } in now in
      let front : m.0 < h.ledger.made = front_is_made m.0 m.1 queue views h in (
        left,
        record {
          ledger = ledger;
          legal = subst (λ (n : ℕ). IsLegal n (moment_of ledger queue)) mine.capacity after;
          few = h.few;
          later = h.later;
          fits = each_after_set (Fits ledger) views pass left here others;
        },
        (refl, subst (λ (n : ℕ). m.0 < n) (sym mine.made) front, record { moment = now; rest = queue; is = is_at; front = refl; legal_after = after }),
      )

  -- a sender's pass may take in the receiver's
  pub meets : (pass capacity senders number : ℕ) (stored : List T) (seen other room places made : ℕ) (taken : List (ℕ × T)) (heard : List (ℕ × ℕ))
      → Merges Holds pass (sender capacity senders number stored seen) other (receiver room places made taken heard) (met capacity senders number stored seen made taken heard) nobody
  meets pass capacity senders number stored seen other room places made taken heard queue views h at apart at_other =
      let both : Known T = met capacity senders number stored seen made taken heard in
      let joined : List (Known T) = set views pass both in
      let was : get_elem? views other ≡ some (receiver room places made taken heard) = ⊎_elim (λ t. absurd (apart t.0)) (λ t. t.1) (element_after_set views pass other both (receiver room places made taken heard) at_other) in
      let mine = (h.fits pass (sender capacity senders number stored seen) at).sends refl in
      let theirs = (h.fits other (receiver room places made taken heard) was).gets refl in
      let ledger : Ledger T = record h.ledger { reader = pass } in
      let keeps_sender = λ (j : ℕ) (u : Known T) (is : IsSender h.ledger j u).
      let now : IsSender ledger j u = record { capacity = is.capacity; senders = is.senders; numbered = is.numbered; seated = is.seated; stored = is.stored; seen = is.seen } in now in
      let here : Fits ledger pass both = record {
        sends = λ _. record { capacity = mine.capacity; senders = mine.senders; numbered = mine.numbered; seated = mine.seated; stored = mine.stored; seen = mine.seen };
        gets = λ _. record { capacity = mine.capacity; senders = mine.senders; made = theirs.made; seated = refl; taken = theirs.taken; heard = theirs.heard };
      } in
      let FitsBeside : ℕ → Known T → Type 0 = λ j u. j ≢ other → Fits ledger j u in
      let beside : Each FitsBeside joined = each_after_set FitsBeside views pass both (λ _. here)
      (λ (j : ℕ) (u : Known T) (apart : j ≢ pass) (e : get_elem? views j ≡ some u) (beside : j ≢ other).
      let fits : Fits h.ledger j u = h.fits j u e in record {
        sends = λ may. keeps_sender j u (fits.sends may);
        gets = not_reader h.ledger other j u theirs.seated beside fits;
      }) in
      record {
        ledger = ledger;
        legal = record { in_order = h.legal.in_order; within = h.legal.within };
        few = h.few;
        later = h.later;
        fits = each_after_set (Fits ledger) joined other nobody (fits_nobody ledger other) (λ j u beside_it e. beside j u e beside_it);
      }

  -- A pass that took in the receiver's may give it back, in a new pass. The two may have heard what
  -- both of them know.
  pub parts : (pass capacity senders number : ℕ) (stored : List T) (seen made : ℕ) (taken : List (ℕ × T)) (heard : List (ℕ × ℕ)) (told : ℕ) (hears : List (ℕ × ℕ))
      → ((ledger : Ledger T) → Fits ledger pass (met capacity senders number stored seen made taken heard) → (told ≤ length ledger.taken) × HaveStored ledger.stored hears)
      → Forks Holds pass (met capacity senders number stored seen made taken heard) (sender capacity senders number stored told) (receiver capacity senders made taken hears)
  parts pass capacity senders number stored seen made taken heard told hears knows queue views h at =
      let both : Fits h.ledger pass (met capacity senders number stored seen made taken heard) = h.fits pass (met capacity senders number stored seen made taken heard) at in
      let known = knows h.ledger both in
      let sends = both.sends refl in
      let gets = both.gets refl in
      let left : Known T = sender capacity senders number stored told in
      let old : List (Known T) = set views pass left in
      let ledger : Ledger T = record h.ledger { reader = length old } in
      let here = fits_sender ledger pass capacity senders number stored told (record { capacity = sends.capacity; senders = sends.senders; numbered = sends.numbered; seated = sends.seated; stored = sends.stored; seen = known.0 }) in
      let others = λ (j : ℕ) (u : Known T) (apart : j ≢ pass) (e : get_elem? views j ≡ some u).
      let fits : Fits h.ledger j u = h.fits j u e in
      let now : Fits ledger j u = record {
        sends = λ may. let is : IsSender h.ledger j u = fits.sends may in record { capacity = is.capacity; senders = is.senders; numbered = is.numbered; seated = is.seated; stored = is.stored; seen = is.seen };
        gets = not_reader h.ledger pass j u gets.seated apart fits;
      } in now in
      let new = fits_receiver ledger (length old) capacity senders made taken hears (record { capacity = gets.capacity; senders = gets.senders; made = gets.made; seated = refl; taken = gets.taken; heard = known.1 }) in
      record {
        ledger = ledger;
        legal = record { in_order = h.legal.in_order; within = h.legal.within };
        few = h.few;
        later = h.later;
        fits = each_after_push (Fits ledger) old (receiver capacity senders made taken hears) (each_after_set (Fits ledger) views pass left here others) new;
      }

  -- A pass that took in the receiver's learns that the items taken of the sender are a prefix of
  -- those it stored. It also learns how many are left.
  pub compares : (pass capacity senders number : ℕ) (stored : List T) (seen made : ℕ) (taken : List (ℕ × T)) (heard : List (ℕ × ℕ))
      → Learns Holds pass (met capacity senders number stored seen made taken heard) (λ _. Compares (met capacity senders number stored seen made taken heard))
  compares pass capacity senders number stored seen made taken heard queue views h at =
      let both : Fits h.ledger pass (met capacity senders number stored seen made taken heard) = h.fits pass (met capacity senders number stored seen made taken heard) at in
      let whole : items_of number taken ++ items_of number queue ≡ stored = ap (λ (l : List (ℕ × T)). items_of number l ++ items_of number queue) (both.gets refl).taken ∙ sym (h.legal.in_order number) ∙ sym (both.sends refl).stored in
      let sum : length (items_of number taken) + length (items_of number queue) ≡ length stored = sym (length-append (items_of number taken) (items_of number queue)) ∙ ap (λ (l : List T). length l) whole in
      let part : length (items_of number queue) ≤ length queue = items_of-shorter number queue in
      let held : length queue ≤ h.ledger.capacity = h.legal.within in
      let size : capacity ≡ h.ledger.capacity = (both.sends refl).capacity in
      ((items_of number queue, whole), omega (arith, sum, part, held, size))

  -- a sender's look at the queue
  pub looks_as_sender : (pass capacity senders number : ℕ) (stored : List T) (seen : ℕ) → Learns Holds pass (sender capacity senders number stored seen) (SenderSees (sender capacity senders number stored seen))
  looks_as_sender pass capacity senders number stored seen queue views h at =
      let mine = (h.fits pass (sender capacity senders number stored seen) at).sends refl in
      let now : Moment T = moment_of h.ledger queue in
      let is_at = sender_at queue views h pass (sender capacity senders number stored seen) mine in
      record { moment = now; queue_is = refl; is = is_at; alone = λ one. room_if_alone capacity senders number stored seen now is_at one }

  -- the receiver's look at the queue
  pub looks_as_receiver : (pass capacity senders made : ℕ) (taken : List (ℕ × T)) (heard : List (ℕ × ℕ))
      → Learns Holds pass (receiver capacity senders made taken heard) (ReceiverSees (receiver capacity senders made taken heard))
  looks_as_receiver pass capacity senders made taken heard queue views h at =
      let mine = (h.fits pass (receiver capacity senders made taken heard) at).gets refl in
      let now : Moment T = moment_of h.ledger queue in
      let is_at = receiver_at queue views h pass (receiver capacity senders made taken heard) mine in
      record { moment = now; queue_is = refl; is = is_at; all = λ none. all_taken_if_empty capacity senders taken heard now is_at none }
