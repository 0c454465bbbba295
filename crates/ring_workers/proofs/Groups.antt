-- Groups among those that are held: their nodes, their charters and their places in the list.
use Rattle.std.proofs.Common.{◌≡◌, ℕ, zero, suc, List, [], ◌∷◌, ◌++◌, length, Option, Some, None, slice_get, refl, sym, ap, ◌∙◌, subst, inl, inr, ◌⊎◌, append_assoc, true≢false}
use Rattle.indexmap.specs.IndexMap.{set_value_at}
use Rattle.std.specs.Map.{keys_of, lookup, values_of}
use Rattle.std.specs.Str.{bytes_eq}
use Rattle.std.specs.Prelude.{Bool, cond, true, false, position, IfOk, IsTrue, Result, Ok, Err}
use Rattle.ring_id.specs.declared.refusal.NoMemory.{NoMemory}
use Rattle.ring_node.specs.Reports.{Told}
use Rattle.ring_workers.specs.Owners.{owner_of}
use Rattle.std.proofs.lemmas.List.Quantifiers.{position-Some}
use Rattle.std.proofs.lemmas.Slice.Eq.{bytes_eq-Decides}
use Rattle.std.proofs.lemmas.Option.{get_or_from_slice_get, none-some, same_Some}
use Rattle.ring_node.specs.declared.charter.Charter.{Charter}
use Rattle.ring_node.specs.Envelopes.{Sent}
use Rattle.ring_node.specs.Nodes.{Seated}
use Rattle.ring_workers.specs.Goings.{HasReceived}
use Rattle.ring_workers.specs.Holdings.{AllSeated, charters_in, nodes_in}
use Rattle.ring_workers.specs.private.Holdings.{IsGroupAt, IsHolding}
use Rattle.ring_workers.specs.Lists.{IsOneOf}
use Rattle.ring_workers.specs.private.Seatings.{IsSeating, KeepsTerm, empty_seating}
use Rattle.ring_workers.specs.Seatings.{Seating, seated_in}
use Rattle.ring_workers.proofs.Among.{among_none, among_first, among_rest, among_cons, among_left, among_right, among_append}
use Rattle.ring_workers.proofs.Seatings.{seated_in-empties}

module _ {E M : Type 0} where
  -- groups around the one at a place, also when other seats are written there
  pub record Around (groups : List (List ℕ × Seating E M)) (place : ℕ) (name : List ℕ) (seats : Seating E M) : Type 0 where
    pub before : List (List ℕ × Seating E M)
    pub after : List (List ℕ × Seating E M)
    pub whole : groups ≡ before ++ (name, seats) ∷ after
    pub written : (new : Seating E M) → set_value_at groups place new ≡ before ++ (name, new) ∷ after

  pub around : (groups : List (List ℕ × Seating E M)) (place : ℕ) (name : List ℕ) (seats : Seating E M) → slice_get groups place ≡ Some (name, seats) → Around groups place name seats
  around [] place name seats h = absurd (none-some (name, seats) h)
  around (g ∷ groups) zero name seats h =
      let same : g ≡ (name, seats) = same_Some g (name, seats) h in
      record {
        before = [];
        after = groups;
        whole = ap (λ v. v ∷ groups) same;
        written = λ new. ap (λ v. (v, new) ∷ groups) (ap (λ v. v.0) same);
      }
  around (g ∷ groups) (suc place) name seats h =
      let rest = around groups place name seats h in
      record { before = g ∷ rest.before; after = rest.after; whole = ap (λ l. g ∷ l) rest.whole; written = λ new. ap (λ l. g ∷ l) (rest.written new) }

  -- the nodes of two runs of groups
  pub nodes_in-append : (gs hs : List (List ℕ × Seating E M)) → nodes_in (gs ++ hs) ≡ nodes_in gs ++ nodes_in hs
  nodes_in-append [] hs = refl
  nodes_in-append (g ∷ gs) hs = ap (λ l. seated_in g.1.places ++ l) (nodes_in-append gs hs) ∙ sym (append_assoc (seated_in g.1.places) (nodes_in gs) (nodes_in hs))

  -- and their charters
  pub charters_in-append : (gs hs : List (List ℕ × Seating E M)) → charters_in (gs ++ hs) ≡ charters_in gs ++ charters_in hs
  charters_in-append [] hs = refl
  charters_in-append (g ∷ gs) hs = ap (λ l. g.1.charter ∷ l) (charters_in-append gs hs)

  -- a charter among groups around one: of another group, or of that one
  pub charter_around : (before after : List (List ℕ × Seating E M)) (name : List ℕ) (seats : Seating E M) (c : Charter E) → IsOneOf (charters_in (before ++ (name, seats) ∷ after)) c
      → IsOneOf (charters_in before) c ⊎ ((seats.charter ≡ c) ⊎ IsOneOf (charters_in after) c)
  charter_around before after name seats c h =
      elim (among_append (charters_in before) (seats.charter ∷ charters_in after) c (subst (λ l. IsOneOf l c) (charters_in-append before ((name, seats) ∷ after)) h)) [
        | inl first ↦ inl first
        | inr rest ↦ inr (among_cons seats.charter (charters_in after) c rest)
      ]

  pub charter_first : (before after : List (List ℕ × Seating E M)) (name : List ℕ) (seats : Seating E M) (c : Charter E) → IsOneOf (charters_in before) c → IsOneOf (charters_in (before ++ (name, seats) ∷ after)) c
  charter_first before after name seats c h = subst (λ l. IsOneOf l c) (sym (charters_in-append before ((name, seats) ∷ after))) (among_left (charters_in before) (seats.charter ∷ charters_in after) c h)

  pub charter_last : (before after : List (List ℕ × Seating E M)) (name : List ℕ) (seats : Seating E M) (c : Charter E) → IsOneOf (charters_in after) c → IsOneOf (charters_in (before ++ (name, seats) ∷ after)) c
  charter_last before after name seats c h =
      subst (λ l. IsOneOf l c) (sym (charters_in-append before ((name, seats) ∷ after)))
      (among_right (charters_in before) (seats.charter ∷ charters_in after) c (among_rest seats.charter h))

  pub charter_mid : (before after : List (List ℕ × Seating E M)) (name : List ℕ) (seats : Seating E M) → IsOneOf (charters_in (before ++ (name, seats) ∷ after)) seats.charter
  charter_mid before after name seats =
      subst (λ l. IsOneOf l seats.charter) (sym (charters_in-append before ((name, seats) ∷ after)))
      (among_right (charters_in before) (seats.charter ∷ charters_in after) seats.charter (among_first seats.charter (charters_in after)))

  -- the charter of the group at a place is held
  pub charter_at : (groups : List (List ℕ × Seating E M)) (place : ℕ) (name : List ℕ) (seats : Seating E M) → slice_get groups place ≡ Some (name, seats) → IsOneOf (charters_in groups) seats.charter
  charter_at groups place name seats h =
      let a = around groups place name seats h in
      subst (λ l. IsOneOf (charters_in l) seats.charter) (sym a.whole) (charter_mid a.before a.after name seats)

module _ {E M : Type 0} where
  -- what stands at a place after a write: what was written, or what stood there
  get_set_value : (groups : List (List ℕ × Seating E M)) (place : ℕ) (name : List ℕ) (seats new : Seating E M) → slice_get groups place ≡ Some (name, seats)
      → (k : ℕ) (g : List ℕ × Seating E M) → slice_get (set_value_at groups place new) k ≡ Some g → ((k ≡ place) × (g ≡ (name, new))) ⊎ (slice_get groups k ≡ Some g)
  get_set_value [] place name seats new there k g h = inr h
  get_set_value (e ∷ groups) zero name seats new there zero g h =
      inl (refl, sym (same_Some (e.0, new) g h) ∙ ap (λ v. (v.0, new)) (same_Some e (name, seats) there))
  get_set_value (e ∷ groups) zero name seats new there (suc k) g h = inr h
  get_set_value (e ∷ groups) (suc place) name seats new there zero g h = inr h
  get_set_value (e ∷ groups) (suc place) name seats new there (suc k) g h =
      elim (get_set_value groups place name seats new there k g h) [
        | inl written ↦ inl (ap suc written.0, written.1)
        | inr old ↦ inr old
      ]

  -- what stands there is what was written
  pub get_set_value-same : (groups : List (List ℕ × Seating E M)) (place : ℕ) (name : List ℕ) (seats new : Seating E M) → slice_get groups place ≡ Some (name, seats) → slice_get (set_value_at groups place new) place ≡ Some (name, new)
  get_set_value-same [] place name seats new h = absurd (none-some (name, seats) h)
  get_set_value-same (e ∷ groups) zero name seats new h = ap (λ v. Some (v.0, new)) (same_Some e (name, seats) h)
  get_set_value-same (e ∷ groups) (suc place) name seats new h = get_set_value-same groups place name seats new h

  -- what stands at a place of a list with one more element
  get_push : (groups : List (List ℕ × Seating E M)) (e : List ℕ × Seating E M) (k : ℕ) (g : List ℕ × Seating E M) → slice_get (groups ++ e ∷ []) k ≡ Some g → (slice_get groups k ≡ Some g) ⊎ ((k ≡ length groups) × (e ≡ g))
  get_push [] e zero g h = inr (refl, same_Some e g h)
  get_push [] e (suc k) g h = absurd (none-some g h)
  get_push (z ∷ groups) e zero g h = inl h
  get_push (z ∷ groups) e (suc k) g h =
      elim (get_push groups e k g h) [
        | inl old ↦ inl old
        | inr new ↦ inr (ap suc new.0, new.1)
      ]

  pub get_pushed : (groups : List (List ℕ × Seating E M)) (e : List ℕ × Seating E M) → slice_get (groups ++ e ∷ []) (length groups) ≡ Some e
  get_pushed [] e = refl
  get_pushed (z ∷ groups) e = get_pushed groups e

  -- the groups stay a holding where seats of the same group are written
  pub holding_set : (number workers : ℕ) (groups after : List (List ℕ × Seating E M)) (place : ℕ) (name : List ℕ) (seats new : Seating E M) → slice_get groups place ≡ Some (name, seats)
      → after ≡ set_value_at groups place new → IsHolding number workers groups → IsGroupAt number workers name new → IsHolding number workers after
  holding_set number workers groups after place name seats new there is holding group = subst (IsHolding number workers) (sym is) (record {
    each = λ g h.
        elim (get_set_value groups place name seats new there h.place g h.there) [
          | inl written ↦ subst (λ v. IsGroupAt number workers v.0 v.1) (sym written.1) group
          | inr old ↦ holding.each g (record { place = h.place; there = old })
        ];
    once = λ j k a b p q same.
        let x = named j a p in
        let y = named k b q in
        holding.once j k x.0 y.0 x.1 y.1 (x.2 ∙ same ∙ sym y.2);
  })
    where
      named : (j : ℕ) (a : List ℕ × Seating E M) → slice_get (set_value_at groups place new) j ≡ Some a → (b : List ℕ × Seating E M) × (slice_get groups j ≡ Some b) × (b.0 ≡ a.0)
      named j a p =
          elim (get_set_value groups place name seats new there j a p) [
            | inl written ↦ ((name, seats), subst (λ k. slice_get groups k ≡ Some (name, seats)) (sym written.0) there, sym (ap (λ v. v.0) written.1))
            | inr old ↦ (a, old, refl)
          ]

  -- and where a group of another name is added
  pub holding_push : (number workers : ℕ) (groups : List (List ℕ × Seating E M)) (name : List ℕ) (new : Seating E M) → ((g : List ℕ × Seating E M) → IsOneOf groups g → g.0 ≡ name → ⊥)
      → IsHolding number workers groups → IsGroupAt number workers name new → IsHolding number workers (groups ++ (name, new) ∷ [])
  holding_push number workers groups name new other holding group = record {
    each = λ g h.
        elim (get_push groups (name, new) h.place g h.there) [
          | inl old ↦ holding.each g (record { place = h.place; there = old })
          | inr last ↦ subst (λ v. IsGroupAt number workers v.0 v.1) last.1 group
        ];
    once = λ j k a b p q same.
        elim (get_push groups (name, new) j a p) [
          | inl first ↦ elim (get_push groups (name, new) k b q) [
            | inl second ↦ holding.once j k a b first second same
            | inr last ↦ absurd (other a (record { place = j; there = first }) (same ∙ sym (ap (λ v. v.0) last.1)))
          ]
          | inr last ↦ elim (get_push groups (name, new) k b q) [
            | inl second ↦ absurd (other b (record { place = k; there = second }) (sym same ∙ sym (ap (λ v. v.0) last.1)))
            | inr both ↦ last.0 ∙ sym both.0
          ]
        ];
  }

  -- empty seats are of their group
  pub empty_group : (number workers : ℕ) (charter : Charter E) (seats : Seating E M) → seats ≡ empty_seating number workers charter → IsSeating seats.number seats.workers seats.charter seats.places
      → IsGroupAt number workers charter.group seats
  empty_group number workers charter seats is seating = record {
    named = ap (λ s. s.charter.group) is;
    number_is = ap (λ s. s.number) is;
    workers_is = ap (λ s. s.workers) is;
    seated = seating;
  }

  -- no node is seated on empty seats
  pub none_seated : (number workers : ℕ) (charter : Charter E) (seats : Seating E M) → seats ≡ empty_seating number workers charter → seated_in seats.places ≡ []
  none_seated number workers charter seats is = ap (λ s. seated_in s.places) is ∙ seated_in-empties (Seated E M) (length charter.roster)

  -- what was looked for in vain has another name
  pub other_name : (groups : List (List ℕ × Seating E M)) (name : List ℕ) → lookup (bytes_eq name) groups ≡ None → (g : List ℕ × Seating E M) → IsOneOf groups g → g.0 ≡ name → ⊥
  other_name [] name h g there same = among_none there
  other_name (e ∷ groups) name h g there same =
      elim (among_cons e groups g there) [
        | inl first ↦ passed (bytes_eq name e.0) ((bytes_eq-Decides name e.0).1 (sym same ∙ sym (ap (λ v. v.0) first))) h
        | inr rest ↦ other_name groups name (missed (bytes_eq name e.0) h) g rest same
      ]
    where
      passed : (b : Bool) → b ≡ true → cond b (Some e.1) (lookup (bytes_eq name) groups) ≡ None → ⊥
      passed true yes_it h2 = none-some e.1 (sym h2)
      passed false no_it h2 = true≢false (sym no_it)

      missed : (b : Bool) → cond b (Some e.1) (lookup (bytes_eq name) groups) ≡ None → lookup (bytes_eq name) groups ≡ None
      missed true h2 = absurd (none-some e.1 (sym h2))
      missed false h2 = h2

  -- the group that was found has the name that was looked for
  pub name_found : (groups : List (List ℕ × Seating E M)) (name key : List ℕ) (seats : Seating E M) (place : ℕ) → position (bytes_eq name) (keys_of groups) ≡ Some place → slice_get groups place ≡ Some (key, seats) → key ≡ name
  name_found groups name key seats place at there =
      let found = (position-Some (bytes_eq name) (keys_of groups) place name at).1 in
      let same = get_or_from_slice_get (keys_of groups) place key name (key_there groups place (key, seats) there) in
      sym ((bytes_eq-Decides name key).0 (ap (bytes_eq name) (sym same) ∙ found))
    where
      key_there : (gs : List (List ℕ × Seating E M)) (k : ℕ) (g : List ℕ × Seating E M) → slice_get gs k ≡ Some g → slice_get (keys_of gs) k ≡ Some g.0
      key_there [] k g h = absurd (none-some g h)
      key_there (e ∷ gs) zero g h = ap (λ v. Some v.0) (same_Some e g h)
      key_there (e ∷ gs) (suc k) g h = key_there gs k g h

module _ {E M : Type 0} where
  -- the seats at a place are the value there
  pub value_there : (groups : List (List ℕ × Seating E M)) (place : ℕ) (name : List ℕ) (seats found : Seating E M) → slice_get groups place ≡ Some (name, seats) → Some found ≡ slice_get (values_of groups) place → found ≡ seats
  value_there [] place name seats found there h = absurd (none-some (name, seats) there)
  value_there (g ∷ groups) zero name seats found there h = same_Some found g.1 h ∙ ap (λ v. v.1) (same_Some g (name, seats) there)
  value_there (g ∷ groups) (suc place) name seats found there h = value_there groups place name seats found there h

  -- a group stays one where its seats keep their owner and term
  pub group_kept : (number workers : ℕ) (name : List ℕ) (seats new : Seating E M) → IsGroupAt number workers name seats → KeepsTerm seats new → IsSeating new.number new.workers new.charter new.places → IsGroupAt number workers name new
  group_kept number workers name seats new group keeps seated = record {
    named = ap (λ ch. ch.group) keeps.charter_is ∙ group.named;
    number_is = keeps.number_is ∙ group.number_is;
    workers_is = keeps.workers_is ∙ group.workers_is;
    seated = seated;
  }

  -- the nodes of a group are held
  pub among_groups : (groups : List (List ℕ × Seating E M)) (place : ℕ) (name : List ℕ) (seats : Seating E M) → slice_get groups place ≡ Some (name, seats) → (node : Seated E M) → IsOneOf (seated_in seats.places) node → IsOneOf (nodes_in groups) node
  among_groups [] place name seats there node h = absurd (none-some (name, seats) there)
  among_groups (g ∷ groups) zero name seats there node h =
      among_left (seated_in g.1.places) (nodes_in groups) node (subst (λ v. IsOneOf (seated_in v.1.places) node) (sym (same_Some g (name, seats) there)) h)
  among_groups (g ∷ groups) (suc place) name seats there node h = among_right (seated_in g.1.places) (nodes_in groups) node (among_groups groups place name seats there node h)

  module _ (number workers : ℕ) (groups : List (List ℕ × Seating E M)) (place : ℕ) (name : List ℕ) (seats : Seating E M) (there : slice_get groups place ≡ Some (name, seats))
      (number_is : seats.number ≡ number) (workers_is : seats.workers ≡ workers) where
    -- all nodes of a charter are held where all are seated
    all_held : (charter : Charter E) → AllSeated seats.number seats.workers (seated_in seats.places) charter → AllSeated number workers (nodes_in groups) charter
    all_held charter all = record {
      each = λ position member at owned.
          let h = all.each position member at (ap (λ n. owner_of n member) workers_is ∙ owned ∙ sym number_is) in
          record { node = h.node; there = among_groups groups place name seats there h.node h.there; charter_is = h.charter_is; position_is = h.position_is };
    }

    pub all_held_if : (charter : Charter E) (result : Result Bool NoMemory) → IfOk result (λ own. IsTrue own → AllSeated seats.number seats.workers (seated_in seats.places) charter)
        → IfOk result (λ own. IsTrue own → AllSeated number workers (nodes_in groups) charter)
    all_held_if charter (Ok own) h = λ yes_own. all_held charter (h yes_own)
    all_held_if charter (Err fault) h = tt

    -- a receipt of a node that is seated is a receipt of one that is held
    received_held : (e : Sent E M) → HasReceived (seated_in seats.places) e → HasReceived (nodes_in groups) e
    received_held e h = record { node = h.node; there = among_groups groups place name seats there h.node h.there; led = h.led; place = h.place; taken = h.taken; index = h.index }

    pub received_held_if : (e : Sent E M) (result : Result (Bool × Option (Told E)) (Sent E M)) → IfOk result (λ r. IsTrue r.0 → HasReceived (seated_in seats.places) e)
        → IfOk result (λ r. IsTrue r.0 → HasReceived (nodes_in groups) e)
    received_held_if e (Ok r) h = λ took. received_held e (h took)
    received_held_if e (Err back) h = tt
