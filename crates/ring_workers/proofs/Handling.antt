-- Handling: what a worker has in hand before and after one item.
use Rattle.std.proofs.Common.{◌≡◌, ℕ, List, [], ◌∷◌, ◌++◌, Option, Some, None, refl, sym, ap, ◌∙◌, subst, inl, arith, false, true, true≢false}
use Rattle.std.proofs.lemmas.List.{append-nil}
use Rattle.std.specs.Prelude.{Result, Ok, Err, OnOk, OnErr}
use Rattle.std.specs.Result.{is_err}
use Rattle.ring_election.specs.Tables.{Table}
use Rattle.ring_inbox.specs.Values.{ReceiverLog, SenderLog}
use Rattle.ring_node.specs.declared.charter.Charter.{Charter}
use Rattle.ring_node.specs.Envelopes.{Sent}
use Rattle.ring_workers.specs.declared.handed.Handed.{Handed}
use Rattle.ring_workers.specs.declared.handed.Why.{Why}
use Rattle.ring_workers.specs.declared.handed.Why.TheVariants.{Stopped, Closed, Halted, Starved, Spent}
use Rattle.ring_workers.specs.declared.item.Item.{Item}
use Rattle.ring_workers.specs.declared.item.Item.TheVariants.{Begin, Packet, Stop}
use Rattle.ring_workers.specs.Handed.{Ended, Hands}
use Rattle.ring_workers.specs.Holdings.{AllOwned, Holding, NoTwoAlike, nodes_of}
use Rattle.ring_workers.specs.private.Holdings.{Steps}
use Rattle.ring_workers.specs.Runs.{IsEnd, Ran}
use Rattle.ring_workers.specs.private.Runs.{Turns}
use Rattle.ring_workers.specs.private.Sends.{Sends}
use Rattle.ring_workers.proofs.Turning.{ran_send}

-- nothing changes
pub steps_none : {E S M : Type 0} (t : E → Table S M) (charter : Charter E) (holding : Holding E M) (waiting : List (Sent E M)) → Steps t charter holding holding waiting waiting
steps_none t charter holding waiting = record {
  number_is = refl;
  workers_is = refl;
  more = [];
  behind = sym (append-nil waiting);
  stays = λ node there _. (node, there, record { more = []; charter_is = refl; position_is = refl; journal_is = sym (append-nil node.journal) });
  posted = λ node there e sent. inl (node, there, sent);
  source = λ c there. inl there;
}

-- the item is in hand still
pub turns_held : {E S M : Type 0} (t : E → Table S M) (item : Item E M S) (holding : Holding E M) (waiting : List (Sent E M)) (dropped : ℕ)
    → Turns t item holding holding waiting waiting dropped dropped (Some item)
turns_held t (Begin b) holding waiting dropped = record { steps = steps_none t b.value holding waiting; grows = omega arith; end = inl (refl, refl) }
turns_held t (Packet e) holding waiting dropped = record { steps = steps_none t e.charter holding waiting; grows = omega arith; end = inl (refl, refl) }
turns_held t Stop holding waiting dropped = record { steps = (refl, refl); grows = omega arith; end = inl (refl, refl) }

-- what holds of a result that is no refusal
pub room_found : {A F : Type 0} (result : Result A F) (P : Type 0) → OnOk result P → false ≡ is_err result → P
room_found (Ok a) P h e = h
room_found (Err f) P h e = absurd (true≢false (sym e))

-- what holds of a result that is a refusal
pub room_lacking : {A F : Type 0} (result : Result A F) (P : Type 0) → OnErr result P → true ≡ is_err result → P
room_lacking (Ok a) P h e = absurd (true≢false e)
room_lacking (Err f) P h e = h

-- what waited was sent on, by an owner that counts as many workers
pub ran_sent : {E S M : Type 0} (t : E → Table S M) (number workers counted : ℕ) (from to : ReceiverLog (Item E M S)) (old mid new : List (SenderLog (Item E M S)))
    (holding : Holding E M) (outbox after : List (Sent E M)) (dropped : ℕ) (held : Option (Item E M S))
    → Ran t number workers from to old mid holding outbox dropped held → counted ≡ holding.workers → Sends counted outbox after mid new
    → Ran t number workers from to old new holding after dropped held
ran_sent t number workers counted from to old mid new holding outbox after dropped held ran own sends =
    ran_send t number workers from to old mid new holding outbox after dropped held ran
    (subst (λ (w : ℕ). Sends w outbox after mid new) (own ∙ ran.workers_is) sends)

-- what a worker hands over is what it has in hand
pub hands_over : {E S M : Type 0} (t : E → Table S M) (number workers : ℕ) (from to : ReceiverLog (Item E M S)) (old new : List (SenderLog (Item E M S)))
    (holding : Holding E M) (outbox : List (Sent E M)) (dropped : ℕ) (held : Option (Item E M S)) (handed : Handed E M S)
    → Ran t number workers from to old new holding outbox dropped held
    → handed.number ≡ holding.number → handed.workers ≡ holding.workers
    → handed.nodes ≡ holding → handed.outbox.items ≡ outbox → handed.dropped ≡ dropped → handed.held ≡ held
    → AllOwned holding.number holding.workers (nodes_of holding) → NoTwoAlike (nodes_of holding)
    → Ended handed.why from to handed.held
    → Hands t number workers from to old new handed
hands_over {E} {S} {M} t number workers from to old new holding outbox dropped held handed ran number_is workers_is nodes_is outbox_is dropped_is held_is owned apart ended = record {
  number_is = number_is ∙ ran.number_is;
  workers_is = workers_is ∙ ran.workers_is;
  owned = subst (λ (h : Holding E M). AllOwned number workers (nodes_of h)) (sym nodes_is)
      (subst (λ (n : ℕ). AllOwned n workers (nodes_of holding)) ran.number_is (subst (λ (w : ℕ). AllOwned holding.number w (nodes_of holding)) ran.workers_is owned));
  apart = subst (λ (h : Holding E M). NoTwoAlike (nodes_of h)) (sym nodes_is) apart;
  ran = rw (nodes_is, outbox_is, dropped_is, held_is) ran;
  ended = ended;
}

-- a reason to end at the last item is why a worker ended
ended_why : {E M S : Type 0} (why : Why) (from to : ReceiverLog (Item E M S)) (held : Option (Item E M S)) (earlier : List (ℕ × Item E M S)) (sender : ℕ) (last : Item E M S)
    → to.taken ≡ (from.taken ++ earlier) ++ (sender, last) ∷ [] → IsEnd why last held → Ended why from to held
ended_why Stopped from to held earlier sender last took ends = record { earlier = earlier; sender = sender; last = last; took = took; ends = ends }
ended_why Closed from to held earlier sender last took ends = absurd ends
ended_why Halted from to held earlier sender last took ends = record { earlier = earlier; sender = sender; last = last; took = took; ends = ends }
ended_why Starved from to held earlier sender last took ends = record { earlier = earlier; sender = sender; last = last; took = took; ends = ends }
ended_why Spent from to held earlier sender last took ends = record { earlier = earlier; sender = sender; last = last; took = took; ends = ends }

-- a worker that ends at an item that it took hands over why
pub ended_at : {E S M : Type 0} (t : E → Table S M) (number workers : ℕ) (from mid to : ReceiverLog (Item E M S)) {old new : List (SenderLog (Item E M S))} {holding : Holding E M} {outbox : List (Sent E M)} {dropped : ℕ}
    (sender : ℕ) (item : Item E M S) (why : Why) (held : Option (Item E M S)) (handed : Handed E M S)
    → Ran t number workers from mid old new holding outbox dropped None → to ≡ record mid { taken = mid.taken ++ (sender, item) ∷ [] } → IsEnd why item held → handed.why ≡ why → handed.held ≡ held
    → Ended handed.why from to handed.held
ended_at t number workers from mid to sender item why held handed ran next ends why_is held_is =
    let took : to.taken ≡ (from.taken ++ ran.taken) ++ (sender, item) ∷ [] =
    ap (λ (log : ReceiverLog _). log.taken) next ∙ ap (λ (log : ReceiverLog _). log.taken ++ (sender, item) ∷ []) ran.took in
    rw (why_is, held_is) (ended_why why from to held ran.taken sender item took ends)
