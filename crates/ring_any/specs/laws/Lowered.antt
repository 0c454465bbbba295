-- Receipts on a sum, and their part on one variant. The trace of a node on the sum is that of the
-- variant over the receipts that are the variant's own.
use Rattle.std.specs.Prelude.{◌≡◌, ℕ, true, false, if◌then◌else◌, List, [], ◌∷◌, ◌++◌, length, map, Option, Some, None, IsSomeAnd, option_map, slice_get, refl}
use Rattle.std.proofs.Common.{◌∙◌, ap, suc}
use Rattle.std.proofs.lemmas.List.{map-append}
use Rattle.std.proofs.lemmas.Option.{slice_get-map}
use Rattle.ring_id.specs.declared.side.Side.{Side}
use Rattle.ring_id.specs.declared.side.Side.TheVariants.{Left, Right}
use Rattle.ring_id.specs.Sides.{other, same_side}
use Rattle.ring_roster.specs.Ring.{neighbour}
use Rattle.ring_election.specs.declared.sends.Sends.{Sends}
use Rattle.ring_election.specs.Tables.{Table, nothing, to_side}
use Rattle.ring_election.specs.Traces.{listed, sent_after, sent_from, state_from, taken_from}
use Rattle.ring_election.specs.Families.{AllFit, Fitting}
use Rattle.ring_election.proofs.Members.{IsIn, in_first, in_rest}
use Rattle.ring_any.specs.Variants.{Variant, lift_fits, lift_table, of_both, put_sends}

-- a receipt before others, if its message is there
abbrev pub received : {M : Type 0} → Side → Option M → List (Side × M) → List (Side × M)
received from None rest = rest
received from (Some m) rest = (from, m) ∷ rest

-- the receipts whose messages are the variant's own
abbrev pub lowered : {WM M : Type 0} → Variant WM M → List (Side × WM) → List (Side × M)
lowered messages [] = []
lowered messages (r ∷ rs) = received r.0 (messages.of r.1) (lowered messages rs)

-- all messages among these receipts are the variant's own
pub record OwnMessages {WM M : Type 0} (messages : Variant WM M) (rs : List (Side × WM))
    : Type 0 where
  pub each : (side : Side) (m : WM) → IsIn (taken_from side rs) m → (v : M) × (messages.of m ≡ Some v)

-- a value that is there is the one that the fact names
pub some_and : {A : Type 0} (o : Option A) (P : A → Type 0) → IsSomeAnd o P → (a : A) × (o ≡ Some a) × P a
some_and None P h = absurd h
some_and (Some a) P h = (a, refl, h)

-- without sends, no message goes to either side
to_side-nothing : (M : Type 0) (side : Side) → to_side side (nothing M) ≡ None
to_side-nothing M Left = refl
to_side-nothing M Right = refl

-- a message to a side is put into the sum
pub to_side-put_sends : {W P : Type 0} (v : Variant W P) (side : Side) (sends : Sends P) → to_side side (put_sends v sends) ≡ option_map v.put (to_side side sends)
to_side-put_sends v Left sends = refl
to_side-put_sends v Right sends = refl

-- a message in a list is put into the sum
listed-option_map : {A B : Type 0} (f : A → B) (o : Option A) → listed (option_map f o) ≡ map f (listed o)
listed-option_map f None = refl
listed-option_map f (Some a) = refl

module _ {WS S WM M : Type 0} (states : Variant WS S) (messages : Variant WM M) (t : Table S M) where
  -- the state on the sum
  pub state_from-lift_table : (s : S) (rs : List (Side × WM)) → state_from (lift_table states messages t) (states.put s) rs ≡ states.put (state_from t s (lowered messages rs))
  state_from-lift_table s [] = refl
  state_from-lift_table s (r ∷ rs) =
      rw (states.of_put s)
      (elim (messages.of r.1) as (λ o. state_from (lift_table states messages t) (of_both (Some s) o (λ inner v. states.put (t.next inner r.0 v)) (states.put s)) rs ≡ states.put (state_from t s (received r.0 o (lowered messages rs)))) [
        | None ↦ state_from-lift_table s rs
        | Some v ↦ state_from-lift_table (t.next s r.0 v) rs
      ])

  -- the messages sent on the sum
  pub sent_from-lift_table : (side : Side) (s : S) (rs : List (Side × WM)) → sent_from (lift_table states messages t) side (states.put s) rs ≡ map messages.put (sent_from t side s (lowered messages rs))
  sent_from-lift_table side s [] = refl
  sent_from-lift_table side s (r ∷ rs) =
      rw (states.of_put s)
      (elim (messages.of r.1) as (λ o.
      listed (to_side side (of_both (Some s) o (λ inner v. put_sends messages (t.next_sends inner r.0 v)) (nothing WM)))
      ++ sent_from (lift_table states messages t) side (of_both (Some s) o (λ inner v. states.put (t.next inner r.0 v)) (states.put s)) rs
      ≡ map messages.put (sent_from t side s (received r.0 o (lowered messages rs)))) [
        | None ↦ rw (to_side-nothing WM side) (sent_from-lift_table side s rs)
        | Some v ↦
            rw (to_side-put_sends messages side (t.next_sends s r.0 v), listed-option_map messages.put (to_side side (t.next_sends s r.0 v)), map-append, sent_from-lift_table side (t.next s r.0 v) rs) refl
      ])

  -- all messages that were sent on the sum
  pub sent_after-lift_table : (me : ℕ) (side : Side) (rs : List (Side × WM)) → sent_after (lift_table states messages t) me side rs ≡ map messages.put (sent_after t me side (lowered messages rs))
  sent_after-lift_table me side rs =
      rw (to_side-put_sends messages side (t.first_sends me), listed-option_map messages.put (to_side side (t.first_sends me)), map-append, sent_from-lift_table side (t.first me) rs) refl

module _ {WM M : Type 0} (messages : Variant WM M) where
  -- the first of receipts has a message of the variant
  own_first : (r : Side × WM) (rs : List (Side × WM)) → OwnMessages messages (r ∷ rs) → (v : M) × (messages.of r.1 ≡ Some v)
  own_first (Left, m) rs own = own.each Left m (in_first m (taken_from Left rs))
  own_first (Right, m) rs own = own.each Right m (in_first m (taken_from Right rs))

  -- the others have messages of the variant too
  own_rest : (r : Side × WM) (rs : List (Side × WM)) → OwnMessages messages (r ∷ rs) → OwnMessages messages rs
  own_rest r rs own = record {
    each = λ side m there. own.each side m
        (elim (same_side side r.0) as (λ b. IsIn (if b then r.1 ∷ taken_from side rs else taken_from side rs) m) [ true ↦ in_rest r.1 (taken_from side rs) m there | false ↦ there ]);
  }

  -- the messages taken on the sum
  pub taken_from-lowered : (side : Side) (rs : List (Side × WM)) → OwnMessages messages rs → taken_from side rs ≡ map messages.put (taken_from side (lowered messages rs))
  taken_from-lowered side [] own = refl
  taken_from-lowered side (r ∷ rs) own =
      let first = own_first r rs own in
      let rest = taken_from-lowered side rs (own_rest r rs own) in
      rw first.1
      (elim (same_side side r.0) as (λ b. (if b then r.1 ∷ taken_from side rs else taken_from side rs) ≡ map messages.put (if b then first.0 ∷ taken_from side (lowered messages rs) else taken_from side (lowered messages rs))) [
        | true ↦ ap (λ (m : WM). m ∷ taken_from side rs) (messages.put_of r.1 first.0 first.1) ∙ ap (λ (l : List WM). messages.put first.0 ∷ l) rest
        | false ↦ rest
      ])

  -- no receipt is lost
  pub length-lowered : (rs : List (Side × WM)) → OwnMessages messages rs → length (lowered messages rs) ≡ length rs
  length-lowered [] own = refl
  length-lowered (r ∷ rs) own =
      let first = own_first r rs own in
      rw first.1 (ap suc (length-lowered rs (own_rest r rs own)))

  -- a message that fits on the sum is the variant's own
  pub own-fit : (fits : Fitting M) (ring : List ℕ) (i : ℕ) (rs : List (Side × WM)) → AllFit (lift_fits messages fits) ring i rs → OwnMessages messages rs
  own-fit fits ring i rs all = record {
    each = λ side m there.
        let found = some_and (messages.of m) (fits ring (neighbour (length ring) i side) (other side) there.place) (all.each side there.place m there.there) in
        (found.0, found.1);
  }

  -- it fits on the variant
  pub fit-lowered : (fits : Fitting M) (ring : List ℕ) (i : ℕ) (rs : List (Side × WM)) → AllFit (lift_fits messages fits) ring i rs → AllFit fits ring i (lowered messages rs)
  fit-lowered fits ring i rs all = record {
    each = λ side k v taken.
        let on_sum : slice_get (taken_from side rs) k ≡ Some (messages.put v) =
        ap (λ (l : List WM). slice_get l k) (taken_from-lowered side rs (own-fit fits ring i rs all))
        ∙ slice_get-map messages.put (taken_from side (lowered messages rs)) k
        ∙ ap (option_map messages.put) taken in
        rw (messages.of_put v) at (all.each side k (messages.put v) on_sum);
  }
