-- Sending: what waits in the outbox goes to the owners' passes, one envelope at a time.
use Rattle.std.proofs.Common.{◌≡◌, ℕ, zero, suc, List, [], ◌∷◌, ◌++◌, Some, slice_get, set, refl, sym, ap, ◌∙◌, subst, inl, inr, append_assoc, eq-eqb}
use Rattle.std.specs.Prelude.{◌==◌, if◌then◌else◌}
use Rattle.std.proofs.lemmas.List.{append-nil, length-set}
use Rattle.std.proofs.lemmas.Bool.{cases_eq, ne_eqb}
use Rattle.ring_inbox.specs.Values.{SenderLog}
use Rattle.ring_node.specs.Envelopes.{Sent}
use Rattle.ring_workers.specs.declared.item.Item.{Item}
use Rattle.ring_workers.specs.declared.item.Item.TheVariants.{Packet}
use Rattle.ring_workers.specs.Owners.{owner_of, receiver_of}
use Rattle.ring_workers.specs.private.Sends.{Sends}
use Rattle.ring_workers.specs.Sends.{Stored, packets_to}

-- a pass that stored these items more
abbrev storing : {T : Type 0} → SenderLog T → List T → SenderLog T
storing pass items = record pass { stored = pass.stored ++ items }

-- of two lists, the packets that go to a worker
pub packets_to-append : {E S M : Type 0} (workers number : ℕ) (xs ys : List (Sent E M))
    → packets_to {S = S} workers number (xs ++ ys) ≡ packets_to workers number xs ++ packets_to workers number ys
packets_to-append workers number [] ys = refl
packets_to-append {E} {S} {M} workers number (e ∷ xs) ys =
    elim (cases_eq (owner_of workers (receiver_of e)) number) [
      | inl same ↦ rw (eq-eqb (owner_of workers (receiver_of e)) number same) (ap (λ (l : List (Item E M S)). Packet e ∷ l) (packets_to-append workers number xs ys))
      | inr differ ↦ rw (ne_eqb (owner_of workers (receiver_of e)) number differ) (packets_to-append workers number xs ys)
    ]

-- what passes stored, and then stored more
pub stored_on : {E S M : Type 0} (workers : ℕ) (first second : List (Sent E M)) (old mid new : List (SenderLog (Item E M S)))
    → Stored workers first old mid → Stored workers second mid new → Stored workers (first ++ second) old new
stored_on {E} {S} {M} workers first second old mid new a b = record {
  count = b.count ∙ a.count;
  each = λ v pass there.
      b.each v (record pass { stored = pass.stored ++ packets_to workers v first }) (a.each v pass there)
      ∙ ap (λ (l : List (Item E M S)). Some (record pass { stored = l }))
      (append_assoc pass.stored (packets_to workers v first) (packets_to workers v second) ∙ ap (λ (l : List (Item E M S)). pass.stored ++ l) (sym (packets_to-append workers v first second)));
}

-- passes that stored nothing
pub stored_none : {E S M : Type 0} (workers : ℕ) (passes : List (SenderLog (Item E M S))) → Stored workers [] passes passes
stored_none workers passes = record {
  count = refl;
  each = λ v pass there. there ∙ ap (λ (l : List _). Some (record pass { stored = l })) (sym (append-nil pass.stored));
}

-- nothing is sent
pub sends_none : {E S M : Type 0} (workers : ℕ) (waiting : List (Sent E M)) (passes : List (SenderLog (Item E M S))) → Sends workers waiting waiting passes passes
sends_none workers waiting passes = record { sent = []; front = refl; passes = stored_none workers passes }

-- two lots are sent
pub sends_on : {E S M : Type 0} (workers : ℕ) (waiting mid after : List (Sent E M)) (old between new : List (SenderLog (Item E M S)))
    → Sends workers waiting mid old between → Sends workers mid after between new → Sends workers waiting after old new
sends_on {E} {S} {M} workers waiting mid after old between new a b = record {
  sent = a.sent ++ b.sent;
  front = a.front ∙ ap (λ (l : List (Sent E M)). a.sent ++ l) b.front ∙ sym (append_assoc a.sent b.sent after);
  passes = stored_on workers a.sent b.sent old between new a.passes b.passes;
}

-- the item, at one place
at_place : {T : Type 0} → ℕ → T → ℕ → List T
at_place place item v = if place == v then item ∷ [] else []

at_own : {T : Type 0} (place : ℕ) (item : T) → at_place place item place ≡ item ∷ []
unfolding at_place
at_own place item = rw (eq-eqb place place refl) refl

at_other : {T : Type 0} (place : ℕ) (item : T) (v : ℕ) → (place ≡ v → ⊥) → at_place place item v ≡ []
unfolding at_place
at_other place item v differ = rw (ne_eqb place v differ) refl

-- what a list has at a place after a write there
get-set_same : {A : Type 0} (xs : List A) (place : ℕ) (x y : A) → slice_get xs place ≡ Some x → slice_get (set xs place y) place ≡ Some y
get-set_same [] place x y e = cc
get-set_same (z ∷ xs) zero x y e = refl
get-set_same (z ∷ xs) (suc place) x y e = get-set_same xs place x y e

-- and at another place
get-set_other : {A : Type 0} (xs : List A) (place : ℕ) (y : A) (v : ℕ) → (place ≡ v → ⊥) → slice_get (set xs place y) v ≡ slice_get xs v
get-set_other [] place y v differ = refl
get-set_other (z ∷ xs) zero y zero differ = absurd (differ refl)
get-set_other (z ∷ xs) zero y (suc v) differ = refl
get-set_other (z ∷ xs) (suc place) y zero differ = refl
get-set_other (z ∷ xs) (suc place) y (suc v) differ = get-set_other xs place y v (λ e. differ (ap suc e))

-- after a write at a place, the list has there what was written, and elsewhere what it had
set_at_place : {T : Type 0} (xs : List (SenderLog T)) (place : ℕ) (pass : SenderLog T) (item : T)
    → slice_get xs place ≡ Some pass
    → (v : ℕ) (other : SenderLog T) → slice_get xs v ≡ Some other
    → slice_get (set xs place (storing pass (item ∷ []))) v ≡ Some (storing other (at_place place item v))
set_at_place {T} xs place pass item here v other there =
    elim (cases_eq place v) [
      | inl same ↦
          let own : slice_get xs place ≡ Some other = rw same there in
          let one : pass ≡ other = cc in
          subst (λ (k : ℕ). slice_get (set xs place (storing pass (item ∷ []))) k ≡ Some (storing other (at_place place item k))) same
          (rw (at_own place item) (get-set_same xs place pass (storing pass (item ∷ [])) here ∙ ap (λ (p : SenderLog T). Some (storing p (item ∷ []))) one))
      | inr differ ↦
          rw (at_other place item v differ)
          (get-set_other xs place (storing pass (item ∷ [])) v differ ∙ there ∙ ap (λ (l : List T). Some (record other { stored = l })) (sym (append-nil other.stored)))
    ]

-- the front of the outbox is stored at the owner of its receiver
pub sends_front : {E S M : Type 0} (workers : ℕ) (e : Sent E M) (rest : List (Sent E M)) (passes : List (SenderLog (Item E M S))) (pass : SenderLog (Item E M S))
    → slice_get passes (owner_of workers (receiver_of e)) ≡ Some pass
    → Sends workers (e ∷ rest) rest passes (set passes (owner_of workers (receiver_of e)) (record pass { stored = pass.stored ++ Packet e ∷ [] }))
unfolding at_place
sends_front {E} {S} {M} workers e rest passes pass there = record {
  sent = e ∷ [];
  front = refl;
  passes = record {
    count = length-set passes _ _;
    each = set_at_place passes (owner_of workers (receiver_of e)) pass (Packet e) there;
  };
}

-- to write what stands there changes nothing
set_own : {A : Type 0} (xs : List A) (place : ℕ) (x : A) → slice_get xs place ≡ Some x → set xs place x ≡ xs
set_own [] place x e = refl
set_own (z ∷ xs) zero x e = let same : z ≡ x = cc in ap (λ a. a ∷ xs) (sym same)
set_own (z ∷ xs) (suc place) x e = ap (λ l. z ∷ l) (set_own xs place x e)

-- after some were sent, the front is stored
pub sends_next : {E S M : Type 0} (workers : ℕ) (waiting mid rest : List (Sent E M)) (e : Sent E M) (old between : List (SenderLog (Item E M S))) (place : ℕ) (pass new : SenderLog (Item E M S))
    → Sends workers waiting mid old between → mid ≡ e ∷ rest → place ≡ owner_of workers (receiver_of e)
    → slice_get between place ≡ Some pass → new ≡ record pass { stored = pass.stored ++ Packet e ∷ [] }
    → Sends workers waiting rest old (set between place new)
sends_next {E} {S} {M} workers waiting mid rest e old between place pass new sends front owner there stores =
    let own : slice_get between (owner_of workers (receiver_of e)) ≡ Some pass = ap (λ (k : ℕ). slice_get between k) (sym owner) ∙ there in
    let before : Sends workers waiting (e ∷ rest) old between = subst (λ (l : List (Sent E M)). Sends workers waiting l old between) front sends in
    rw (owner, stores)
    (sends_on workers waiting (e ∷ rest) rest old between (set between (owner_of workers (receiver_of e)) (record pass { stored = pass.stored ++ Packet e ∷ [] })) before
    (sends_front workers e rest between pass own))

-- after some were sent, the front is not stored and goes back
pub sends_back : {E S M : Type 0} (workers : ℕ) (waiting mid rest after : List (Sent E M)) (e back : Sent E M) (old between : List (SenderLog (Item E M S))) (place : ℕ) (pass new : SenderLog (Item E M S))
    → Sends workers waiting mid old between → mid ≡ e ∷ rest → after ≡ back ∷ rest → back ≡ e
    → slice_get between place ≡ Some pass → new ≡ pass
    → Sends workers waiting after old (set between place new)
sends_back {E} {S} {M} workers waiting mid rest after e back old between place pass new sends front goes same there stays =
    let all : after ≡ mid = goes ∙ ap (λ (d : Sent E M). d ∷ rest) same ∙ sym front in
    rw (all, stays, set_own between place pass there) sends
