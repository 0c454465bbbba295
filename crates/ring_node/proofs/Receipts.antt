-- One more receipt: what follows from a journal that has one more packet at its end.
use Rattle.std.proofs.Common.{◌≡◌, ◌+◌, ◌≤◌, ℕ, zero, suc, true, false, cond, List, [], ◌∷◌, ◌++◌, length, take, Option, Some, None, slice_get, refl, sym, ap, ap₂, ◌∙◌, append_assoc, inl, inr, ◌⊎◌, arith, add-one}
use Rattle.std.proofs.lemmas.List.{append-nil}
use Rattle.ring_id.specs.declared.side.Side.{Side}
use Rattle.ring_id.specs.declared.side.Side.TheVariants.{Left, Right}
use Rattle.ring_id.specs.Sides.{other, same_side}
use Rattle.ring_roster.specs.Ring.{neighbour}
use Rattle.ring_election.specs.Families.{AllFit, Fitting}
use Rattle.ring_election.specs.Tables.{Table, to_side}
use Rattle.ring_election.specs.Traces.{listed, sent_after, sent_from, state_after, state_from, taken_from}
use Rattle.ring_node.specs.declared.packet.Packet.{Packet}
use Rattle.ring_node.specs.declared.packet.Packet.TheVariants.{Algo, Leader}
use Rattle.ring_node.specs.Journals.{algo_count, algo_part, algo_receipt, algo_sends, announcement, brought, kept_or, known_after, known_from, leader_count, news, packets_after, packets_from, state_on}
use Rattle.ring_node.specs.private.Journals.{algo_of, algos_of}
use Rattle.ring_node.specs.private.Kept.{AllName}
use Rattle.ring_node.specs.Ports.{all_algos}

-- the element after a list, or one of the list's own
pub get_snoc : {A : Type 0} (xs : List A) (x : A) (k : ℕ) (y : A) → slice_get (xs ++ x ∷ []) k ≡ Some y → (slice_get xs k ≡ Some y) ⊎ ((k ≡ length xs) × (x ≡ y))
get_snoc [] x zero y e = let same : x ≡ y = cc in inr (refl, same)
get_snoc [] x (suc k) y e = cc
get_snoc (z ∷ xs) x zero y e = inl e
get_snoc (z ∷ xs) x (suc k) y e =
    elim (get_snoc xs x k y e) [
      | inl h ↦ inl h
      | inr h ↦ inr (ap suc h.0, h.1)
    ]

-- what was taken from a side, of two lists of receipts
pub taken_from-append : {M : Type 0} (side : Side) (xs ys : List (Side × M)) → taken_from side (xs ++ ys) ≡ taken_from side xs ++ taken_from side ys
taken_from-append side [] ys = refl
taken_from-append side (x ∷ xs) ys =
    let rest = taken_from-append side xs ys in
    elim (same_side side x.0) as (λ b. cond b (x.1 ∷ taken_from side (xs ++ ys)) (taken_from side (xs ++ ys)) ≡ cond b (x.1 ∷ taken_from side xs) (taken_from side xs) ++ taken_from side ys) [
      | true ↦ ap (λ l. x.1 ∷ l) rest
      | false ↦ rest
    ]

-- of one receipt more, from this side or from the other
pub taken_from-snoc : {M : Type 0} (side from : Side) (m : M) (xs : List (Side × M)) → taken_from side (xs ++ (from, m) ∷ []) ≡ taken_from side xs ++ cond (same_side side from) (m ∷ []) []
taken_from-snoc side from m xs = taken_from-append side xs ((from, m) ∷ [])

pub algo_count-append : {M : Type 0} (ps qs : List (Packet M)) → algo_count (ps ++ qs) ≡ algo_count ps + algo_count qs
algo_count-append [] qs = omega arith
algo_count-append (Algo m ∷ ps) qs = omega (arith, algo_count-append ps qs)
algo_count-append (Leader v ∷ ps) qs = algo_count-append ps qs

pub leader_count-append : {M : Type 0} (ps qs : List (Packet M)) → leader_count (ps ++ qs) ≡ leader_count ps + leader_count qs
leader_count-append [] qs = omega arith
leader_count-append (Algo m ∷ ps) qs = leader_count-append ps qs
leader_count-append (Leader v ∷ ps) qs = omega (arith, leader_count-append ps qs)

-- every packet is of one sort
pub counts-length : {M : Type 0} (ps : List (Packet M)) → algo_count ps + leader_count ps ≡ length ps
counts-length [] = refl
counts-length (Algo m ∷ ps) = omega (arith, counts-length ps)
counts-length (Leader v ∷ ps) = omega (arith, counts-length ps)

-- no more is taken from a side than is received
pub length-taken_from : {M : Type 0} (side : Side) (xs : List (Side × M)) → length (taken_from side xs) ≤ length xs
length-taken_from side [] = omega arith
length-taken_from side (x ∷ xs) =
    let rest = length-taken_from side xs in
    elim (same_side side x.0) as (λ b. length (cond b (x.1 ∷ taken_from side xs) (taken_from side xs)) ≤ length (x ∷ xs)) [
      | true ↦ omega arith
      | false ↦ omega arith
    ]

pub algo_part-append : {M : Type 0} (js ks : List (Side × Packet M)) → algo_part (js ++ ks) ≡ algo_part js ++ algo_part ks
algo_part-append [] ks = refl
algo_part-append (r ∷ js) ks =
    ap (λ l. algo_receipt r.0 r.1 ++ l) (algo_part-append js ks) ∙ sym (append_assoc (algo_receipt r.0 r.1) (algo_part js) (algo_part ks))

pub algo_part-snoc : {M : Type 0} (side : Side) (p : Packet M) (js : List (Side × Packet M)) → algo_part (js ++ (side, p) ∷ []) ≡ algo_part js ++ algo_receipt side p
algo_part-snoc side p js = algo_part-append js ((side, p) ∷ []) ∙ ap (λ l. algo_part js ++ l) (append-nil (algo_receipt side p))

-- one packet more, on both sides of the next lemma
counted : {M : Type 0} (side from : Side) (p : Packet M) (receipts : List (Side × M)) (packets : List (Packet M))
    → length (taken_from side receipts) ≡ algo_count packets
    → length (taken_from side (algo_receipt from p ++ receipts)) ≡ algo_count (cond (same_side side from) (p ∷ packets) packets)
counted side from (Algo m) receipts packets same =
    elim (same_side side from) as (λ b. length (cond b (m ∷ taken_from side receipts) (taken_from side receipts)) ≡ algo_count (cond b (Algo m ∷ packets) packets)) [
      | true ↦ omega arith
      | false ↦ same
    ]
counted side from (Leader v) receipts packets same =
    elim (same_side side from) as (λ b. length (taken_from side receipts) ≡ algo_count (cond b (Leader v ∷ packets) packets)) [
      | true ↦ same
      | false ↦ same
    ]

-- an algorithm's receipts from a side are as many as its messages among the packets from there
pub length-taken_from-algo_part : {M : Type 0} (side : Side) (js : List (Side × Packet M)) → length (taken_from side (algo_part js)) ≡ algo_count (taken_from side js)
length-taken_from-algo_part side [] = refl
length-taken_from-algo_part side (r ∷ js) = counted side r.0 r.1 (algo_part js) (taken_from side js) (length-taken_from-algo_part side js)

-- the messages of the algorithm among packets
pub algos_of-append : {M : Type 0} (ps qs : List (Packet M)) → algos_of (ps ++ qs) ≡ algos_of ps ++ algos_of qs
algos_of-append [] qs = refl
algos_of-append (p ∷ ps) qs = ap (λ l. algo_of p ++ l) (algos_of-append ps qs) ∙ sym (append_assoc (algo_of p) (algos_of ps) (algos_of qs))

algos_of-all_algos : {M : Type 0} (o : Option M) → algos_of (all_algos o) ≡ listed o
algos_of-all_algos None = refl
algos_of-all_algos (Some m) = refl

algos_of-announcement : (M : Type 0) (to : Side) (o : Option ℕ) → algos_of {M = M} (announcement to o) ≡ []
algos_of-announcement M Left o = refl
algos_of-announcement M Right None = refl
algos_of-announcement M Right (Some v) = refl

-- a message of the algorithm is among its messages at its own index
pub algo_at : {M : Type 0} (ps : List (Packet M)) (k : ℕ) (m : M) → slice_get ps k ≡ Some (Algo m) → slice_get (algos_of ps) (algo_count (take k ps)) ≡ Some m
algo_at [] k m h = cc
algo_at (Algo x ∷ ps) zero m h = let same : x ≡ m = cc in ap Some same
algo_at (Leader v ∷ ps) zero m h = cc
algo_at (Algo x ∷ ps) (suc k) m h = rw add-one (algo_at ps k m h)
algo_at (Leader v ∷ ps) (suc k) m h = algo_at ps k m h

-- an announcement among packets that all name a leader names it
pub leader_at : {M : Type 0} (w : ℕ) (ps : List (Packet M)) (k v : ℕ) → AllName w ps → slice_get ps k ≡ Some (Leader v) → v ≡ w
leader_at w [] k v all h = cc
leader_at w (Algo x ∷ ps) zero v all h = cc
leader_at w (Leader x ∷ ps) zero v all h = let same : x ≡ v = cc in sym same ∙ all.0
leader_at w (Algo x ∷ ps) (suc k) v all h = leader_at w ps k v all h
leader_at w (Leader x ∷ ps) (suc k) v all h = leader_at w ps k v all.1 h

pub AllName-append : {M : Type 0} (w : ℕ) (ps qs : List (Packet M)) → AllName w ps → AllName w qs → AllName w (ps ++ qs)
AllName-append w [] qs a b = b
AllName-append w (Algo m ∷ ps) qs a b = AllName-append w ps qs a b
AllName-append w (Leader v ∷ ps) qs a b = (a.0, AllName-append w ps qs a.1 b)

pub AllName-all_algos : {M : Type 0} (w : ℕ) (o : Option M) → AllName w (all_algos o)
AllName-all_algos w None = tt
AllName-all_algos w (Some m) = tt

-- an announcement names a leader, if every leader that is news is that one
pub AllName-announcement : (M : Type 0) (w : ℕ) (to : Side) (o : Option ℕ) → ((v : ℕ) → o ≡ Some v → v ≡ w) → AllName {M = M} w (announcement to o)
AllName-announcement M w Left o h = tt
AllName-announcement M w Right None h = tt
AllName-announcement M w Right (Some v) h = (h v refl, tt)

-- what holds of each message of a list and of one more, at their places, holds of the longer list
each_snoc : {M : Type 0} (P : ℕ → M → Type 0) (xs : List M) (m : M) → ((k : ℕ) (x : M) → slice_get xs k ≡ Some x → P k x) → P (length xs) m
    → (k : ℕ) (x : M) → slice_get (xs ++ m ∷ []) k ≡ Some x → P k x
each_snoc P xs m each last k x h =
    elim (get_snoc xs m k x h) [
      | inl before ↦ each k x before
      | inr here ↦ rw (here.0, ← here.1) last
    ]

module _ {M : Type 0} (fits : Fitting M) (ring : List ℕ) (i : ℕ) (rs : List (Side × M)) (m : M) (all : AllFit fits ring i rs) where
  -- the place of a message in what was taken from a side, one receipt more
  placed : (side from : Side) → fits ring (neighbour (length ring) i from) (other from) (length (taken_from from rs)) m
      → (k : ℕ) (x : M) → slice_get (taken_from side rs ++ cond (same_side side from) (m ∷ []) []) k ≡ Some x → fits ring (neighbour (length ring) i side) (other side) k x
  placed Left Left fit k x h = each_snoc (fits ring (neighbour (length ring) i Left) Right) (taken_from Left rs) m (all.each Left) fit k x h
  placed Left Right fit k x h = all.each Left k x (rw append-nil at h)
  placed Right Left fit k x h = all.each Right k x (rw append-nil at h)
  placed Right Right fit k x h = each_snoc (fits ring (neighbour (length ring) i Right) Left) (taken_from Right rs) m (all.each Right) fit k x h

  -- one more receipt of the algorithm that fits as the next from its side
  pub AllFit-snoc : (from : Side) → fits ring (neighbour (length ring) i from) (other from) (length (taken_from from rs)) m → AllFit fits ring i (rs ++ (from, m) ∷ [])
  AllFit-snoc from fit = record { each = λ side k x h. placed side from fit k x (ap (λ (l : List M). slice_get l k) (sym (taken_from-snoc side from m rs)) ∙ h) }

module _ {S M : Type 0} (t : Table S M) where
  -- the state past one receipt
  state_past : (s : S) (side : Side) (p : Packet M) (rs : List (Side × M)) → state_from t s (algo_receipt side p ++ rs) ≡ state_from t (state_on t s side p) rs
  state_past s side (Algo m) rs = refl
  state_past s side (Leader v) rs = refl

  state_from-append : (s : S) (xs ys : List (Side × M)) → state_from t s (xs ++ ys) ≡ state_from t (state_from t s xs) ys
  state_from-append s [] ys = refl
  state_from-append s (x ∷ xs) ys = state_from-append (t.next s x.0 x.1) xs ys

  state_of_receipt : (s : S) (side : Side) (p : Packet M) → state_from t s (algo_receipt side p) ≡ state_on t s side p
  state_of_receipt s side (Algo m) = refl
  state_of_receipt s side (Leader v) = refl

  -- the algorithm's state after one more packet
  pub state_after-snoc : (me : ℕ) (js : List (Side × Packet M)) (side : Side) (p : Packet M)
      → state_after t me (algo_part (js ++ (side, p) ∷ [])) ≡ state_on t (state_after t me (algo_part js)) side p
  state_after-snoc me js side p =
      ap (state_after t me) (algo_part-snoc side p js)
      ∙ state_from-append (t.first me) (algo_part js) (algo_receipt side p)
      ∙ state_of_receipt (state_after t me (algo_part js)) side p

  known_from-snoc : (s : S) (known : Option ℕ) (js : List (Side × Packet M)) (side : Side) (p : Packet M)
      → known_from t s known (js ++ (side, p) ∷ []) ≡ kept_or (known_from t s known js) (brought t (state_from t s (algo_part js)) side p)
  known_from-snoc s known [] side p = refl
  known_from-snoc s known (r ∷ js) side p =
      known_from-snoc (state_on t s r.0 r.1) (kept_or known (brought t s r.0 r.1)) js side p
      ∙ ap (λ (x : S). kept_or (known_from t s known (r ∷ js)) (brought t x side p)) (sym (state_past s r.0 r.1 (algo_part js)))

  -- what is known after one more packet
  pub known_after-snoc : (me : ℕ) (js : List (Side × Packet M)) (side : Side) (p : Packet M)
      → known_after t me (js ++ (side, p) ∷ []) ≡ kept_or (known_after t me js) (brought t (state_after t me (algo_part js)) side p)
  known_after-snoc me js side p = known_from-snoc (t.first me) None js side p

  packets_from-snoc : (to : Side) (s : S) (known : Option ℕ) (js : List (Side × Packet M)) (side : Side) (p : Packet M)
      → packets_from t to s known (js ++ (side, p) ∷ [])
      ≡ packets_from t to s known js
      ++ (algo_sends t to (state_from t s (algo_part js)) side p ++ announcement to (news (known_from t s known js) (brought t (state_from t s (algo_part js)) side p)))
  packets_from-snoc to s known [] side p = append-nil _
  packets_from-snoc to s known (r ∷ js) side p =
      let front : List (Packet M) = algo_sends t to s r.0 r.1 ++ announcement to (news known (brought t s r.0 r.1)) in
      let known' : Option ℕ = kept_or known (brought t s r.0 r.1) in
      let more : S → List (Packet M) = λ x. algo_sends t to x side p ++ announcement to (news (known_from t s known (r ∷ js)) (brought t x side p)) in
      ap (λ (l : List (Packet M)). front ++ l) (packets_from-snoc to (state_on t s r.0 r.1) known' js side p)
      ∙ sym (append_assoc front (packets_from t to (state_on t s r.0 r.1) known' js) (more (state_from t (state_on t s r.0 r.1) (algo_part js))))
      ∙ ap (λ (x : S). (front ++ packets_from t to (state_on t s r.0 r.1) known' js) ++ more x) (sym (state_past s r.0 r.1 (algo_part js)))

  -- what was sent to a side after one more packet
  pub packets_after-snoc : (me : ℕ) (to : Side) (js : List (Side × Packet M)) (side : Side) (p : Packet M)
      → packets_after t me to (js ++ (side, p) ∷ [])
      ≡ packets_after t me to js
      ++ (algo_sends t to (state_after t me (algo_part js)) side p ++ announcement to (news (known_after t me js) (brought t (state_after t me (algo_part js)) side p)))
  packets_after-snoc me to js side p =
      ap (λ (l : List (Packet M)). all_algos (to_side to (t.first_sends me)) ++ l) (packets_from-snoc to (t.first me) None js side p)
      ∙ sym (append_assoc (all_algos (to_side to (t.first_sends me))) (packets_from t to (t.first me) None js) _)

  -- what the trace sends past one receipt
  sent_past : (to : Side) (s : S) (side : Side) (p : Packet M) (rs : List (Side × M))
      → sent_from t to s (algo_receipt side p ++ rs) ≡ algos_of (algo_sends t to s side p) ++ sent_from t to (state_on t s side p) rs
  sent_past to s side (Algo m) rs = ap (λ (l : List M). l ++ sent_from t to (t.next s side m) rs) (sym (algos_of-all_algos (to_side to (t.next_sends s side m))))
  sent_past to s side (Leader v) rs = refl

  algos_of-packets_from : (to : Side) (s : S) (known : Option ℕ) (js : List (Side × Packet M)) → algos_of (packets_from t to s known js) ≡ sent_from t to s (algo_part js)
  algos_of-packets_from to s known [] = refl
  algos_of-packets_from to s known (r ∷ js) =
      let sends : List (Packet M) = algo_sends t to s r.0 r.1 in
      let tells : List (Packet M) = announcement to (news known (brought t s r.0 r.1)) in
      let later : List (Packet M) = packets_from t to (state_on t s r.0 r.1) (kept_or known (brought t s r.0 r.1)) js in
      let first : algos_of (sends ++ tells) ≡ algos_of sends =
      algos_of-append sends tells ∙ ap (λ (l : List M). algos_of sends ++ l) (algos_of-announcement M to (news known (brought t s r.0 r.1))) ∙ append-nil (algos_of sends) in
      algos_of-append (sends ++ tells) later
      ∙ ap₂ (λ (a b : List M). a ++ b) first (algos_of-packets_from to (state_on t s r.0 r.1) (kept_or known (brought t s r.0 r.1)) js)
      ∙ sym (sent_past to s r.0 r.1 (algo_part js))

  -- the messages of the algorithm among the packets that a node sent are what its trace sends
  pub algos_of-packets_after : (me : ℕ) (to : Side) (js : List (Side × Packet M)) → algos_of (packets_after t me to js) ≡ sent_after t me to (algo_part js)
  algos_of-packets_after me to js =
      algos_of-append (all_algos (to_side to (t.first_sends me))) (packets_from t to (t.first me) None js)
      ∙ ap₂ (λ (a b : List M). a ++ b) (algos_of-all_algos (to_side to (t.first_sends me))) (algos_of-packets_from to (t.first me) None js)
