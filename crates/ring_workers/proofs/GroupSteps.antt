-- Steps of groups: what happens to one group's seats happens to all that is held.
use Rattle.std.proofs.Common.{◌≡◌, ◌<◌, ℕ, List, [], ◌∷◌, ◌++◌, Some, slice_get, refl, sym, ap, ◌∙◌, subst, inl, inr, arith, append_assoc}
use Rattle.indexmap.specs.IndexMap.{set_value_at}
use Rattle.std.proofs.lemmas.List.{append-nil}
use Rattle.ring_election.specs.Tables.{Table}
use Rattle.ring_node.specs.declared.charter.Charter.{Charter}
use Rattle.ring_node.specs.Envelopes.{Sent}
use Rattle.ring_node.specs.Nodes.{Seated}
use Rattle.ring_workers.specs.private.Goings.{Goes}
use Rattle.ring_workers.specs.Holdings.{Holding, charters_in, charters_of, nodes_in, nodes_of}
use Rattle.ring_workers.specs.private.Holdings.{Steps}
use Rattle.ring_workers.specs.Lists.{IsOneOf}
use Rattle.ring_workers.specs.private.Seatings.{IsSeating, KeepsTerm, empty_seating}
use Rattle.ring_workers.specs.Seatings.{Seating, seated_in}
use Rattle.ring_workers.proofs.Among.{among_one, among_left, among_right, among_append}
use Rattle.ring_workers.proofs.Goings.{goes_among, grows_none, grows_on}
use Rattle.ring_workers.proofs.Holdings.{charter_there}
use Rattle.ring_workers.proofs.Groups.{Around, around, charter_around, charter_first, charter_last, charter_mid, charters_in-append, nodes_in-append, none_seated}

module _ {E S M : Type 0} (t : E → Table S M) where
  -- nothing happens
  pub steps_none : (charter : Charter E) (old new : Holding E M) (u w : List (Sent E M)) → new ≡ old → w ≡ u → Steps t charter old new u w
  steps_none charter old new u w same still = record {
    number_is = ap (λ h. h.number) same;
    workers_is = ap (λ h. h.workers) same;
    more = [];
    behind = still ∙ sym (append-nil u);
    stays = λ node h only. (node, subst (λ k. IsOneOf (nodes_of k) node) (sym same) h, grows_none node);
    posted = λ node h e sent. inl (node, subst (λ k. IsOneOf (nodes_of k) node) same h, sent);
    source = λ c h. inl (subst (λ k. IsOneOf (charters_of k) c) same h);
  }

  -- one thing after another
  pub steps_on : (charter : Charter E) (a b c : Holding E M) (u v w : List (Sent E M)) → Steps t charter a b u v → Steps t charter b c v w → Steps t charter a c u w
  steps_on charter a b c u v w ab bc = record {
    number_is = bc.number_is ∙ ab.number_is;
    workers_is = bc.workers_is ∙ ab.workers_is;
    more = ab.more ++ bc.more;
    behind = bc.behind ∙ ap (λ l. l ++ bc.more) ab.behind ∙ append_assoc u ab.more bc.more;
    stays = λ node h only.
        let mid = ab.stays node h only in
        let same = mid.2.charter_is in
        let end = bc.stays mid.0 mid.1 (λ g. ap (λ ch. ch.term) same ∙ only (sym (ap (λ ch. ch.group) same) ∙ g)) in
        (end.0, end.1, grows_on node mid.0 end.0 mid.2 end.2);
    posted = λ node h e sent.
        elim (bc.posted node h e sent) [
          | inl mid ↦ elim (ab.posted mid.0 mid.1 e mid.2) [
            | inl first ↦ inl first
            | inr among ↦ inr (among_left ab.more bc.more e among)
          ]
          | inr among ↦ inr (among_right ab.more bc.more e among)
        ];
    source = λ d h.
        elim (bc.source d h) [
          | inl mid ↦ ab.source d mid
          | inr new ↦ inr new
        ];
  }

  -- what posts nothing may stand before any outbox
  pub steps_before : (charter : Charter E) (old new : Holding E M) (u : List (Sent E M)) → Steps t charter old new [] [] → Steps t charter old new u u
  steps_before charter old new u steps = record {
    number_is = steps.number_is;
    workers_is = steps.workers_is;
    more = [];
    behind = sym (append-nil u);
    stays = steps.stays;
    posted = λ node h e sent.
        elim (steps.posted node h e sent) [
          | inl before ↦ inl before
          | inr among ↦ inr (subst (λ l. IsOneOf l e) (sym steps.behind) among)
        ];
    source = steps.source;
  }

  -- what happens to the seats of the charter's group and term happens to all that is held
  pub steps_in : (charter : Charter E) (number workers : ℕ) (groups after_all : List (List ℕ × Seating E M)) (place : ℕ) (name : List ℕ) (seats new : Seating E M) (u w : List (Sent E M))
      → slice_get groups place ≡ Some (name, seats) → after_all ≡ set_value_at groups place new → KeepsTerm seats new → Goes t (seated_in seats.places) (seated_in new.places) u w
      → Steps t charter (record { number = number; workers = workers; groups = groups }) (record { number = number; workers = workers; groups = after_all }) u w
  steps_in charter number workers groups after_all place name seats new u w there is keeps goes =
      subst (λ gs. Steps t charter (record { number = number; workers = workers; groups = groups }) (record { number = number; workers = workers; groups = gs }) u w) (sym (is ∙ a.written new))
      (subst (λ gs. Steps t charter (record { number = number; workers = workers; groups = gs }) (record { number = number; workers = workers; groups = a.before ++ (name, new) ∷ a.after }) u w) (sym a.whole)
      (record {
        number_is = refl;
        workers_is = refl;
        more = all.more;
        behind = all.behind;
        stays = λ node h only. all.stays node h;
        posted = all.posted;
        source = λ c h.
            elim (charter_around a.before a.after name new c h) [
              | inl first ↦ inl (charter_first a.before a.after name seats c first)
              | inr rest ↦ elim rest [
                | inl same ↦ inl (subst (λ d. IsOneOf (charters_in (a.before ++ (name, seats) ∷ a.after)) d) (sym keeps.charter_is ∙ same) (charter_mid a.before a.after name seats))
                | inr last ↦ inl (charter_last a.before a.after name seats c last)
              ]
            ];
      }))
    where
      a : Around groups place name seats
      a = around groups place name seats there

      all : Goes t (nodes_in (a.before ++ (name, seats) ∷ a.after)) (nodes_in (a.before ++ (name, new) ∷ a.after)) u w
      all =
          subst (λ l. Goes t l (nodes_in (a.before ++ (name, new) ∷ a.after)) u w) (sym (nodes_in-append a.before ((name, seats) ∷ a.after)))
          (subst (λ l. Goes t (nodes_in a.before ++ nodes_in ((name, seats) ∷ a.after)) l u w) (sym (nodes_in-append a.before ((name, new) ∷ a.after)))
          (goes_among t (nodes_in a.before) (seated_in seats.places) (seated_in new.places) (nodes_in a.after) u w goes))

module _ {E S M : Type 0} (t : E → Table S M) where
  -- empty seats are written over seats of an older term
  pub steps_replace : (charter : Charter E) (number workers : ℕ) (groups after_all : List (List ℕ × Seating E M)) (place : ℕ) (name : List ℕ) (seats new : Seating E M)
      → slice_get groups place ≡ Some (name, seats) → after_all ≡ set_value_at groups place new → new ≡ empty_seating number workers charter
      → IsSeating seats.number seats.workers seats.charter seats.places → seats.charter.group ≡ charter.group → seats.charter.term < charter.term
      → Steps t charter (record { number = number; workers = workers; groups = groups }) (record { number = number; workers = workers; groups = after_all }) [] []
  steps_replace charter number workers groups after_all place name seats new there is empty seating group older =
      subst (λ gs. Steps t charter (record { number = number; workers = workers; groups = groups }) (record { number = number; workers = workers; groups = gs }) [] []) (sym (is ∙ a.written new))
      (subst (λ gs. Steps t charter (record { number = number; workers = workers; groups = gs }) (record { number = number; workers = workers; groups = a.before ++ (name, new) ∷ a.after }) [] []) (sym a.whole)
      (record {
        number_is = refl;
        workers_is = refl;
        more = [];
        behind = refl;
        stays = λ node h only.
            elim (among_append (nodes_in a.before) (seated_in seats.places ++ nodes_in a.after) node (subst (λ l. IsOneOf l node) (nodes_in-append a.before ((name, seats) ∷ a.after)) h)) [
              | inl first ↦ (node, first_there node first, grows_none node)
              | inr rest ↦ elim (among_append (seated_in seats.places) (nodes_in a.after) node rest) [
                | inl mid ↦ absurd (not_older node (charter_there seats node seating mid) only)
                | inr last ↦ (node, last_there node last, grows_none node)
              ]
            ];
        posted = λ node h e sent. inl (node, was_there node h, sent);
        source = λ c h.
            elim (charter_around a.before a.after name new c h) [
              | inl first ↦ inl (charter_first a.before a.after name seats c first)
              | inr rest ↦ elim rest [
                | inl same ↦ inr (ap (λ ch. ch.group) (sym same) ∙ ap (λ s. s.charter.group) empty, ap (λ ch. ch.term) (sym same) ∙ ap (λ s. s.charter.term) empty)
                | inr last ↦ inl (charter_last a.before a.after name seats c last)
              ]
            ];
      }))
    where
      a : Around groups place name seats
      a = around groups place name seats there

      no_nodes : seated_in new.places ≡ []
      no_nodes = none_seated number workers charter new empty

      now_all : nodes_in (a.before ++ (name, new) ∷ a.after) ≡ nodes_in a.before ++ nodes_in a.after
      now_all = nodes_in-append a.before ((name, new) ∷ a.after) ∙ ap (λ l. nodes_in a.before ++ (l ++ nodes_in a.after)) no_nodes

      first_there : (node : Seated E M) → IsOneOf (nodes_in a.before) node → IsOneOf (nodes_in (a.before ++ (name, new) ∷ a.after)) node
      first_there node h = subst (λ l. IsOneOf l node) (sym now_all) (among_left (nodes_in a.before) (nodes_in a.after) node h)

      last_there : (node : Seated E M) → IsOneOf (nodes_in a.after) node → IsOneOf (nodes_in (a.before ++ (name, new) ∷ a.after)) node
      last_there node h = subst (λ l. IsOneOf l node) (sym now_all) (among_right (nodes_in a.before) (nodes_in a.after) node h)

      was_there : (node : Seated E M) → IsOneOf (nodes_in (a.before ++ (name, new) ∷ a.after)) node → IsOneOf (nodes_in (a.before ++ (name, seats) ∷ a.after)) node
      was_there node h =
          subst (λ l. IsOneOf l node) (sym (nodes_in-append a.before ((name, seats) ∷ a.after)))
          (elim (among_append (nodes_in a.before) (nodes_in a.after) node (subst (λ l. IsOneOf l node) now_all h)) [
            | inl first ↦ among_left (nodes_in a.before) (seated_in seats.places ++ nodes_in a.after) node first
            | inr last ↦ among_right (nodes_in a.before) (seated_in seats.places ++ nodes_in a.after) node (among_right (seated_in seats.places) (nodes_in a.after) node last)
          ])

      not_older : (node : Seated E M) → node.charter ≡ seats.charter → (node.charter.group ≡ charter.group → node.charter.term ≡ charter.term) → ⊥
      not_older node same only =
          let held : node.charter.term ≡ seats.charter.term = ap (λ ch. ch.term) same in
          let new_term : node.charter.term ≡ charter.term = only (ap (λ ch. ch.group) same ∙ group) in
          omega arith

  -- empty seats are added last
  pub steps_push : (charter : Charter E) (number workers : ℕ) (groups : List (List ℕ × Seating E M)) (name : List ℕ) (new : Seating E M) → new ≡ empty_seating number workers charter
      → Steps t charter (record { number = number; workers = workers; groups = groups }) (record { number = number; workers = workers; groups = groups ++ (name, new) ∷ [] }) [] []
  steps_push charter number workers groups name new empty = record {
    number_is = refl;
    workers_is = refl;
    more = [];
    behind = refl;
    stays = λ node h only. (node, subst (λ l. IsOneOf l node) (sym same_nodes) h, grows_none node);
    posted = λ node h e sent. inl (node, subst (λ l. IsOneOf l node) same_nodes h, sent);
    source = λ c h.
        elim (among_append (charters_in groups) (new.charter ∷ []) c (subst (λ l. IsOneOf l c) (charters_in-append groups ((name, new) ∷ [])) h)) [
          | inl old ↦ inl old
          | inr last ↦ (let same = among_one new.charter c last in inr (ap (λ ch. ch.group) (sym same) ∙ ap (λ s. s.charter.group) empty, ap (λ ch. ch.term) (sym same) ∙ ap (λ s. s.charter.term) empty))
        ];
  }
    where
      same_nodes : nodes_in (groups ++ (name, new) ∷ []) ≡ nodes_in groups
      same_nodes = nodes_in-append groups ((name, new) ∷ []) ∙ ap (λ l. nodes_in groups ++ (l ++ [])) (none_seated number workers charter new empty) ∙ append-nil (nodes_in groups)
