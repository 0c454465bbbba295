-- The moves of a pass, as the calls ask for them. Each is of a view that is known to be a sender's,
-- the receiver's, or both.
use Rattle.std.proofs.Common.{◌≡◌, ℕ, ◌+◌, ◌<◌, ◌≤◌, List, [], ◌∷◌, ◌++◌, length, sym, refl, ap, ◌∙◌, subst, arith}
use Rattle.std.proofs.lemmas.List.Elements.{All-push}
use Rattle.crossbeam_channel.specs.Fifo.{Pushes, Pops, Forks, Merges, Learns}
use Rattle.ring_inbox.specs.declared.rule.Known.{Known}
use Rattle.ring_inbox.specs.private.Rule.{met, Holds, SenderSees, ReceiverSees, IsStored, IsTaken, Compares}
use Rattle.ring_inbox.specs.Rule.{receiver, sender, nobody}
use Rattle.ring_inbox.proofs.Moves.{sizes, makes, stores, takes, meets, parts, compares, looks_as_sender, looks_as_receiver}

module _ {T : Type 0} where
  -- `sizes` of such a view
  pub sizes_as : (capacity senders pass : ℕ) (v : Known T) → v ≡ receiver 0 0 0 [] [] → Forks Holds pass v (receiver capacity senders v.made v.taken v.heard) nobody
  sizes_as capacity senders pass v is = subst (λ (u : Known T). Forks Holds pass u (receiver capacity senders u.made u.taken u.heard) nobody) (sym is) (sizes capacity senders pass)

  -- `makes` of such a view
  pub makes_as : (pass : ℕ) (v : Known T) (capacity senders made : ℕ) (taken : List (ℕ × T)) (heard : List (ℕ × ℕ)) → v ≡ receiver capacity senders made taken heard → made < senders
      → Forks Holds pass v (receiver v.capacity v.senders (v.made + 1) v.taken v.heard) (sender v.capacity v.senders v.made [] 0)
  makes_as pass v capacity senders made taken heard is more =
      subst (λ (u : Known T). Forks Holds pass u (receiver u.capacity u.senders (u.made + 1) u.taken u.heard) (sender u.capacity u.senders u.made [] 0)) (sym is) (makes pass capacity senders made taken heard more)

  -- `stores` of such a view, and its look at the queue
  pub stores_as : (capacity pass : ℕ) (v : Known T) (senders number : ℕ) (x : T) (stored : List T) (seen : ℕ) → v ≡ sender capacity senders number stored seen
      → Pushes Holds capacity pass v (number, x) (IsStored v (number, x)) × Learns Holds pass v (SenderSees v)
  stores_as capacity pass v senders number x stored seen is = subst (λ (u : Known T). Pushes Holds capacity pass u (number, x) (IsStored u (number, x)) × Learns Holds pass u (SenderSees u)) (sym is)
      (stores pass capacity senders number stored seen x, looks_as_sender pass capacity senders number stored seen)

  -- `takes` of such a view, and its look at the queue
  pub takes_as : (pass : ℕ) (v : Known T) (capacity senders made : ℕ) (taken : List (ℕ × T)) (heard : List (ℕ × ℕ)) → v ≡ receiver capacity senders made taken heard
      → Pops Holds pass v (IsTaken v) × Learns Holds pass v (ReceiverSees v)
  takes_as pass v capacity senders made taken heard is = subst (λ (u : Known T). Pops Holds pass u (IsTaken u) × Learns Holds pass u (ReceiverSees u)) (sym is)
      (takes pass capacity senders made taken heard, looks_as_receiver pass capacity senders made taken heard)

  -- `meets` of such a view
  pub meets_as : (pass : ℕ) (v : Known T) (other : ℕ) (w : Known T) (capacity senders number : ℕ) (stored : List T) (seen room places made : ℕ) (taken : List (ℕ × T)) (heard : List (ℕ × ℕ))
      → v ≡ sender capacity senders number stored seen → w ≡ receiver room places made taken heard
      → Merges Holds pass v other w (met v.capacity v.senders v.number v.stored v.seen w.made w.taken w.heard) nobody
  meets_as pass v other w capacity senders number stored seen room places made taken heard v_is w_is =
      subst (λ (y : Known T × Known T). Merges Holds pass y.0 other y.1 (met y.0.capacity y.0.senders y.0.number y.0.stored y.0.seen y.1.made y.1.taken y.1.heard) nobody) (λ i. (sym v_is i, sym w_is i))
      (meets pass capacity senders number stored seen other room places made taken heard)

  -- `compares` of such a view
  pub compares_as : (pass : ℕ) (v : Known T) (capacity senders number : ℕ) (stored : List T) (seen made : ℕ) (taken : List (ℕ × T)) (heard : List (ℕ × ℕ)) → v ≡ met capacity senders number stored seen made taken heard
      → Learns Holds pass v (λ _. Compares v)
  compares_as pass v capacity senders number stored seen made taken heard is = subst (λ (u : Known T). Learns Holds pass u (λ _. Compares u)) (sym is) (compares pass capacity senders number stored seen made taken heard)

  -- `parts` of such a view, by which neither heard anything
  pub parts_as : (pass : ℕ) (v : Known T) (capacity senders number : ℕ) (stored : List T) (seen made : ℕ) (taken : List (ℕ × T)) (heard : List (ℕ × ℕ)) → v ≡ met capacity senders number stored seen made taken heard
      → Forks Holds pass v (sender v.capacity v.senders v.number v.stored v.seen) (receiver v.capacity v.senders v.made v.taken v.heard)
  parts_as pass v capacity senders number stored seen made taken heard is =
      subst (λ (u : Known T). Forks Holds pass u (sender u.capacity u.senders u.number u.stored u.seen) (receiver u.capacity u.senders u.made u.taken u.heard)) (sym is)
      (parts pass capacity senders number stored seen made taken heard seen heard (λ ledger both. ((both.sends refl).seen, (both.gets refl).heard)))

  -- `parts` by which the receiver heard how many items the sender has stored
  pub hears_as : (pass : ℕ) (v : Known T) (capacity senders number : ℕ) (stored : List T) (seen made : ℕ) (taken : List (ℕ × T)) (heard : List (ℕ × ℕ)) → v ≡ met capacity senders number stored seen made taken heard
      → Forks Holds pass v (sender v.capacity v.senders v.number v.stored v.seen) (receiver v.capacity v.senders v.made v.taken (v.heard ++ (v.number, length v.stored) ∷ []))
  hears_as pass v capacity senders number stored seen made taken heard is =
      subst (λ (u : Known T). Forks Holds pass u (sender u.capacity u.senders u.number u.stored u.seen) (receiver u.capacity u.senders u.made u.taken (u.heard ++ (u.number, length u.stored) ∷ []))) (sym is)
      (parts pass capacity senders number stored seen made taken heard seen (heard ++ (number, length stored) ∷ [])
      (λ ledger both. let sends = both.sends refl in
      let own : length stored ≡ length (ledger.stored number) = ap length sends.stored in
      (sends.seen, All-push (λ h. h.1 ≤ length (ledger.stored h.0)) heard (number, length stored) (both.gets refl).heard (omega arith))))

  -- `parts` by which the sender heard how many items the receiver has taken
  pub tells_as : (pass : ℕ) (v : Known T) (capacity senders number : ℕ) (stored : List T) (seen made : ℕ) (taken : List (ℕ × T)) (heard : List (ℕ × ℕ)) → v ≡ met capacity senders number stored seen made taken heard
      → Forks Holds pass v (sender v.capacity v.senders v.number v.stored (length v.taken)) (receiver v.capacity v.senders v.made v.taken v.heard)
  tells_as pass v capacity senders number stored seen made taken heard is =
      subst (λ (u : Known T). Forks Holds pass u (sender u.capacity u.senders u.number u.stored (length u.taken)) (receiver u.capacity u.senders u.made u.taken u.heard)) (sym is)
      (parts pass capacity senders number stored seen made taken heard (length taken) heard
      (λ ledger both. let own : length taken ≡ length ledger.taken = ap length (both.gets refl).taken in (omega arith, (both.gets refl).heard)))

  -- a view that was parted from one that had both is the receiver's, with the capacity that the
  -- sender knew
  pub receiver_again : (s r both w : Known T) (capacity : ℕ) (hears : List (ℕ × ℕ)) → both ≡ met s.capacity s.senders s.number s.stored s.seen r.made r.taken r.heard
      → w ≡ receiver both.capacity both.senders both.made both.taken hears → s.capacity ≡ capacity → w ≡ receiver capacity w.senders w.made w.taken w.heard
  receiver_again s r both w capacity hears both_is w_is known =
      let e : both.capacity ≡ capacity = ap (λ (v : Known T). v.capacity) both_is ∙ known in
      w_is ∙ (λ i. receiver (e i) ((sym w_is i).senders) ((sym w_is i).made) ((sym w_is i).taken) ((sym w_is i).heard))
